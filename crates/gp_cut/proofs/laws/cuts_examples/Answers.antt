use Rattle.std.proofs.Common.{refl}
use Rattle.gp_cut.proofs.laws.cuts_examples.Goals as goal

pub returns : goal.returns
returns c = record { second = refl; window = refl; last = refl; first_two = refl; stage_alone = refl }
