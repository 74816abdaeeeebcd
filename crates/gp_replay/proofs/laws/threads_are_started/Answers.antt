use Rattle.gp_replay.specs.OrderLaws.{doer_is_started, started_after, started_by_run}
use Rattle.gp_replay.specs.Step.{start_state}
use Rattle.gp_replay.proofs.laws.threads_are_started.Goals as goal

pub returns : goal.returns
returns c = record {
  exactly = λ window ids last r thread. (
    started_by_run window (start_state window) last ids thread r,
    started_after window (start_state window) last ids thread r,
  );
  doers = λ window ids last r thread some. doer_is_started window last ids thread r some;
}
