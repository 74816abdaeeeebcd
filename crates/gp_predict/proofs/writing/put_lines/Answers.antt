-- A line that was cut off after whole lines leaves a front part of the text.
use Rattle.std.proofs.lemmas.Result.{err_from_is_err_and}
use Rattle.gp_predict.proofs.Pieces.{front_then}
use Rattle.gp_predict.proofs.writing.put_lines.Goals as goal

pub returns-in_err-put-clause-err : goal.returns-in_err-put-clause-err
returns-in_err-put-clause-err g c =
    let failed = err_from_is_err_and c.from_residual.result c.from_residual.ensures.1 in
    rw failed.1 (front_then (g.S.Sink.written c.args.sink.now) (g.S.Sink.written c.loop-line.sink) (g.S.Sink.written c.put.new.self)
    c.args.lines.now c.loop-line.line-index c.line-item.result c.loop-line-test.true c.line-item.is c.loop-line.invariant.1
    (rw (← c.as_slice.ensures) c.in_err-put.ensures.err))
