use Rattle.gp_replay.specs.Step.{start_state}
use Rattle.gp_replay.specs.RunLaws.{runs_prefix}
use Rattle.gp_replay.proofs.laws.prefixes_are_feasible.Goals as goal

pub returns : goal.returns
returns c = λ window prefix back r. runs_prefix window (start_state window) r.0 prefix back r.1
