use Rattle.gp_replay.specs.AlikeLaws.{alike_runs, alike_step}
use Rattle.gp_replay.proofs.laws.alike_states_step_alike.Goals as goal

pub returns : goal.returns
returns c = record {
  step = alike_step;
  runs = alike_runs;
}
