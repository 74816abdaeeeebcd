use Rattle.std.proofs.Common.{arith}
use Rattle.gp_replay.specs.Step.{start_state}
use Rattle.gp_replay.proofs.Runs.{to_runs, from_runs, to_stuck, from_stuck}
use Rattle.gp_replay.proofs.laws.replay_means_feasible.Goals as goal

pub returns : goal.returns
returns c = record {
  ends = λ window ids last. (to_runs window 0 (start_state window) last ids, from_runs window 0 (start_state window) last ids);
  stuck = λ window ids place rule. (to_stuck window place rule (start_state window) ids, from_stuck window 0 place place rule (start_state window) ids (omega arith));
}
