-- A prefix of the head, or the head and a prefix of what stands behind it.
use Rattle.std.proofs.lemmas.Result.{on_err_weaker}
use Rattle.gp_predict.specs.WrittenLaws.{front_first, front_second}
use Rattle.gp_words.specs.Showing.{show_form}
use Rattle.gp_show.specs.Show.{before_text, body_text}
use Rattle.gp_show.proofs.Pieces.{anyway}
use Rattle.gp_show.proofs.writing.put_before_foot.Goals as goal

pub returns-in_err-put_head-clause-err : goal.returns-in_err-put_head-clause-err
returns-in_err-put_head-clause-err g c =
    let command = show_form c.args.shown.now.command in
    anyway c.from_residual.result
    (front_first (g.S.Sink.written c.args.sink.now) (g.S.Sink.written c.put_head.new.sink) (before_text command.style c.args.shown.now.submission c.args.shown.now.noted c.args.shown.now.checked) (body_text command c.args.shown.now.submission c.args.shown.now.noted c.args.shown.now.checked)
    c.in_err-put_head.ensures.err)

pub returns-clause-err : goal.returns-clause-err
returns-clause-err g c =
    let command = show_form c.args.shown.now.command in
    on_err_weaker c.put_body.result
    (λ cut. front_second (g.S.Sink.written c.args.sink.now) (g.S.Sink.written c.put_head.new.sink) (g.S.Sink.written c.put_body.new.sink) (before_text command.style c.args.shown.now.submission c.args.shown.now.noted c.args.shown.now.checked)
    (body_text command c.args.shown.now.submission c.args.shown.now.noted c.args.shown.now.checked) c.in_ok-put_head.ensures.ok cut)
    c.put_body.ensures.err
