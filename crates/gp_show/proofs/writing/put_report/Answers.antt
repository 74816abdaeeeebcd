-- A prefix of what stands before the foot, or that and a prefix of the foot.
use Rattle.std.proofs.Common.{◌++◌}
use Rattle.std.proofs.lemmas.Result.{on_err_weaker}
use Rattle.gp_predict.specs.WrittenLaws.{front_first, front_second}
use Rattle.gp_words.specs.Showing.{show_form}
use Rattle.gp_show.specs.Show.{before_text, body_text, foot_text}
use Rattle.gp_show.proofs.Pieces.{anyway}
use Rattle.gp_show.proofs.writing.put_report.Goals as goal

pub returns-in_err-put_before_foot-clause-err : goal.returns-in_err-put_before_foot-clause-err
returns-in_err-put_before_foot-clause-err g c =
    let command = show_form c.args.shown.now.command in
    anyway c.from_residual.result
    (front_first (g.S.Sink.written c.args.sink.now) (g.S.Sink.written c.put_before_foot.new.sink)
    (before_text command.style c.args.shown.now.submission c.args.shown.now.noted c.args.shown.now.checked ++ body_text command c.args.shown.now.submission c.args.shown.now.noted c.args.shown.now.checked) (foot_text command.style) c.in_err-put_before_foot.ensures.err)

pub returns-clause-err : goal.returns-clause-err
returns-clause-err g c =
    let command = show_form c.args.shown.now.command in
    on_err_weaker c.put_foot.result
    (λ cut. front_second (g.S.Sink.written c.args.sink.now) (g.S.Sink.written c.put_before_foot.new.sink) (g.S.Sink.written c.put_foot.new.sink)
    (before_text command.style c.args.shown.now.submission c.args.shown.now.noted c.args.shown.now.checked ++ body_text command c.args.shown.now.submission c.args.shown.now.noted c.args.shown.now.checked) (foot_text command.style) c.in_ok-put_before_foot.ensures.ok cut)
    c.put_foot.ensures.err
