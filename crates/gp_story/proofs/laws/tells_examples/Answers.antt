use Rattle.std.proofs.Common.{refl}
use Rattle.gp_story.proofs.laws.tells_examples.Goals as goal

pub returns : goal.returns
returns c = record { flag_raised = refl; flag_up = refl; work_folded = refl; readers_pass = refl }
