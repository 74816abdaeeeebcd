use Rattle.std.proofs.Common.{◌≡◌, ◌∷◌, ◌++◌, drop, false, map, true}
use Rattle.gp_constraint.specs.Terms.{executed}
use Rattle.gp_notify.specs.Signals.{takes}
use Rattle.gp_notify.proofs.signals.taken_terms.Given as goal

abbrev pub invariant-loop-g : goal.invariant-loop-g
invariant-loop-g l = l.terms ++ map (λ g. takes l.w g true) (drop l.g-index l.signals) ≡ executed l.w false ∷ map (λ g. takes l.w g true) l.signals
