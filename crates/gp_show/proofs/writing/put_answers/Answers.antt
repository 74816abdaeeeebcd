-- The instances, and how many of how many they are.
use Rattle.std.proofs.lemmas.Result.{on_err_weaker, on_ok_weaker}
use Rattle.gp_words.specs.Showing.{show_form}
use Rattle.gp_show.specs.Show.{submitted_answers}
use Rattle.gp_show.proofs.InOrder.{told_begun, told_both, told_cut}
use Rattle.gp_show.proofs.Pieces.{anyway}
use Rattle.gp_show.proofs.writing.put_answers.Goals as goal

pub returns-in_err-asked-clause-err : goal.returns-in_err-asked-clause-err
returns-in_err-asked-clause-err g c =
    let shown = c.args.shown.now in
    anyway c.from_residual.result
    (told_begun (show_form shown.command) shown.submission.listing.properties shown.noted.beside (g.S.Sink.written c.args.sink.now) (g.S.Sink.written c.put_passes.new.sink) (submitted_answers shown.submission)
    c.in_err-asked.ensures.err)

pub returns-clause-ok : goal.returns-clause-ok
returns-clause-ok g c =
    let shown = c.args.shown.now in
    on_ok_weaker c.put_count.result
    (λ second. told_both (show_form shown.command) shown.submission.listing.properties shown.noted.beside (g.S.Sink.written c.args.sink.now) (g.S.Sink.written c.put_passes.new.sink) (g.S.Sink.written c.put_count.new.sink)
    (submitted_answers shown.submission) c.in_ok-asked.asked c.in_ok-asked.ensures.count c.in_ok-asked.ensures.ok second)
    c.put_count.ensures.ok

pub returns-clause-err : goal.returns-clause-err
returns-clause-err g c =
    let shown = c.args.shown.now in
    on_err_weaker c.put_count.result
    (λ cut. told_cut (show_form shown.command) shown.submission.listing.properties shown.noted.beside (g.S.Sink.written c.args.sink.now) (g.S.Sink.written c.put_passes.new.sink) (g.S.Sink.written c.put_count.new.sink)
    (submitted_answers shown.submission) c.in_ok-asked.asked c.in_ok-asked.ensures.count c.in_ok-asked.ensures.ok cut)
    c.put_count.ensures.err
