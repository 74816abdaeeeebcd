use Rattle.std.proofs.Common.{refl}
use Rattle.gp_stuck.proofs.laws.lists_examples.Goals as goal

pub returns : goal.returns
returns c = record { crossed_cycles = refl; guarded_cycles = refl; crossed_query = refl; crossed_signs = refl; shared_cycles = refl; crowded_cycles = refl; late_cycles = refl; late_blocks = refl }
