use Rattle.std.proofs.Common.{◌≡◌, ◌++◌, drop, map, true}
use Rattle.gp_link.specs.LinkClauses.{last}
use Rattle.gp_link.proofs.last_writes.last_terms.Given as goal

abbrev pub invariant-loop-w : goal.invariant-loop-w
invariant-loop-w l = l.terms ++ map (λ w. last w true) (drop l.w-index l.choices) ≡ map (λ w. last w true) l.choices
