use Rattle.std.proofs.Common.{◌≡◌, ◌++◌, ◌∷◌, false, drop}
use Rattle.std.specs.Prelude.{flat_map}
use Rattle.gp_constraint.specs.Reads.{choice}
use Rattle.gp_constraint.specs.Terms.{executed}
use Rattle.gp_constraint.proofs.reads.choice_terms.Given as goal

abbrev pub invariant-loop-w : goal.invariant-loop-w
invariant-loop-w l = l.terms ++ flat_map (choice l.r) (drop l.w-index l.writes) ≡ executed l.r false ∷ flat_map (choice l.r) l.writes
