use Rattle.std.proofs.Common.{refl}
use Rattle.gp_merge.proofs.laws.merges_examples.Goals as goal

pub returns : goal.returns
returns c = record { row = (refl, (refl, (refl, refl))); whole = refl }
