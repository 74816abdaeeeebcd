use Rattle.std.proofs.Common.{◌≡◌, ◌++◌, drop}
use Rattle.std.specs.Prelude.{flat_map}
use Rattle.gp_constraint.specs.Terms.{lit_of}
use Rattle.gp_constraint.proofs.term.lits_of.Given as goal

abbrev pub invariant-loop-term : goal.invariant-loop-term
invariant-loop-term l = l.lits ++ flat_map lit_of (drop l.term-index l.terms) ≡ flat_map lit_of l.terms
