use Rattle.gp_replay.specs.Step.{start_state}
use Rattle.gp_replay.specs.ValueLaws.{value_after_run}
use Rattle.gp_replay.proofs.laws.values_are_last_writes.Goals as goal

pub returns : goal.returns
returns c = λ window ids last r variable. value_after_run window (start_state window) last ids variable r
