use Rattle.std.proofs.Common.{refl}
use Rattle.gp_reason.specs.Cycles.{cycle_told, forces_nothing}
use Rattle.gp_reason.proofs.laws.gives_examples.Goals as goal

pub returns : goal.returns
unfolding cycle_told forces_nothing
returns c = record { flag = refl; shared = refl; everything = refl; thread_order = refl; none = refl }
