-- A line more is written, or a line was cut off.
use Rattle.std.proofs.Common.{List, ℕ, subst, arith}
use Rattle.std.proofs.lemmas.Result.{err_from_is_err_and}
use Rattle.gp_predict.specs.WrittenLaws.{IsWritten, written_cut, written_more}
use Rattle.gp_predict.proofs.each_line.put_each_line.Goals as goal

pub returns-in_err-put-clause-err : goal.returns-in_err-put-clause-err
returns-in_err-put-clause-err g c =
    let failed = err_from_is_err_and c.from_residual.result c.from_residual.ensures.1 in
    rw failed.1 (written_cut (g.S.Sink.written c.args.sink.now) (g.S.Sink.written c.loop-rest.sink) (g.S.Sink.written c.put.new.self)
    c.cut_line.result.0.now c.cut_line.result.1.now c.args.text.now
    (subst (λ (rest : List ℕ). IsWritten (g.S.Sink.written c.args.sink.now) (g.S.Sink.written c.loop-rest.sink) rest c.args.text.now) c.cut_line.ensures.whole c.loop-rest.invariant.1)
    c.in_err-put.ensures.err)

pub loop-rest-preserved : goal.loop-rest-preserved
loop-rest-preserved g c = (
  omega (arith, c.loop-rest.invariant.0, c.put.ensures.later),
  written_more (g.S.Sink.written c.args.sink.now) (g.S.Sink.written c.loop-rest.sink) (g.S.Sink.written c.put.new.self)
      c.cut_line.result.0.now c.cut_line.result.1.now c.args.text.now
      (subst (λ (rest : List ℕ). IsWritten (g.S.Sink.written c.args.sink.now) (g.S.Sink.written c.loop-rest.sink) rest c.args.text.now) c.cut_line.ensures.whole c.loop-rest.invariant.1)
      c.in_ok-put.ensures.ok,
)
