use Rattle.std.proofs.lemmas.Result.{err_from_is_err_and}
use Rattle.gp_outside.proofs.Writes.{write_failed, write_stopped, write_took}
use Rattle.gp_outside.proofs.writing.write_whole.Goals as goal

pub loop-rest-preserved : goal.loop-rest-preserved
loop-rest-preserved g c =
    write_took _ _ _ _ _ c.in_ok-count.count c.loop-rest.invariant c.in_ok-count.ensures.bytes

pub returns-then-count-eq0-clause-err : goal.returns-then-count-eq0-clause-err
returns-then-count-eq0-clause-err g c =
    write_stopped _ _ _ _ _ c.in_ok-count.count c.loop-rest.invariant c.in_ok-count.ensures.bytes

pub returns-in_err-count-clause-err : goal.returns-in_err-count-clause-err
returns-in_err-count-clause-err g c =
    let failed = err_from_is_err_and c.from_residual.result c.from_residual.ensures.1 in
    rw failed.1 (write_failed _ _ _ _ _ c.loop-rest.invariant c.in_err-count.ensures.bytes)
