-- What the first pass writes and counts, and what the second one does behind it.
use Rattle.std.proofs.Common.{◌≡◌, ◌+◌, List, length}
use Rattle.std.proofs.lemmas.Result.{IfOk-weaker, on_err_weaker, on_ok_weaker}
use Rattle.gp_view.specs.Answered.{AnsweredForm}
use Rattle.gp_words.specs.Showing.{show_form}
use Rattle.gp_show.specs.Choice.{asked_of}
use Rattle.gp_show.specs.Request.{request_with}
use Rattle.gp_show.specs.Show.{asked_count, submitted_answers}
use Rattle.gp_show.specs.declared.choice.Pass.TheVariants.{Others}
use Rattle.gp_show.proofs.InOrder.{passes_begun, passes_count, passes_cut, passes_told}
use Rattle.gp_show.proofs.Pieces.{anyway}
use Rattle.gp_show.proofs.passes.put_passes.Goals as goal

pub returns-in_err-found-clause-err : goal.returns-in_err-found-clause-err
returns-in_err-found-clause-err g c =
    let shown = c.args.shown.now in
    anyway c.from_residual.result
    (passes_begun (show_form shown.command) shown.submission shown.noted (submitted_answers shown.submission) (g.S.Sink.written c.args.sink.now) (g.S.Sink.written c.put_pass.new.sink)
    c.in_err-found.ensures.err)

pub returns-clause-count : goal.returns-clause-count
returns-clause-count g c =
    let shown = c.args.shown.now in
    let answers : List AnsweredForm = submitted_answers shown.submission in
    IfOk-weaker c.put_pass-2.result (λ asked. asked ≡ c.in_ok-found.found + asked_count (request_with (show_form shown.command) Others shown.submission shown.noted) answers)
    (λ asked. asked ≡ length (asked_of (show_form shown.command) answers))
    (λ asked second. passes_count (show_form shown.command) shown.submission shown.noted answers c.in_ok-found.found asked c.in_ok-found.ensures.count second)
    c.put_pass-2.ensures.count

pub returns-clause-ok : goal.returns-clause-ok
returns-clause-ok g c =
    let shown = c.args.shown.now in
    on_ok_weaker c.put_pass-2.result
    (λ second. passes_told (show_form shown.command) shown.submission shown.noted (submitted_answers shown.submission) (g.S.Sink.written c.args.sink.now) (g.S.Sink.written c.put_pass.new.sink) (g.S.Sink.written c.put_pass-2.new.sink)
    c.in_ok-found.found c.in_ok-found.ensures.count c.in_ok-found.ensures.ok second)
    c.put_pass-2.ensures.ok

pub returns-clause-err : goal.returns-clause-err
returns-clause-err g c =
    let shown = c.args.shown.now in
    on_err_weaker c.put_pass-2.result
    (λ cut. passes_cut (show_form shown.command) shown.submission shown.noted (submitted_answers shown.submission) (g.S.Sink.written c.args.sink.now) (g.S.Sink.written c.put_pass.new.sink) (g.S.Sink.written c.put_pass-2.new.sink)
    c.in_ok-found.found c.in_ok-found.ensures.count c.in_ok-found.ensures.ok cut)
    c.put_pass-2.ensures.err
