use Rattle.std.proofs.Common.{refl}
use Rattle.gp_cut.proofs.laws.parts_examples.Goals as goal

pub returns : goal.returns
returns c = record { weights = refl; single = refl; halves = refl; thirds = refl; empty = refl; few = refl; whole = refl }
