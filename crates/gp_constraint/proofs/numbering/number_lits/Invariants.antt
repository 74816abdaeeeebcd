use Rattle.std.proofs.Common.{◌≡◌, [], drop}
use Rattle.gp_constraint.specs.Numbering.{lits_onto, names_after}
use Rattle.gp_constraint.proofs.numbering.number_lits.Given as goal

abbrev pub invariant-loop-lit : goal.invariant-loop-lit
invariant-loop-lit l = record {
  lits : lits_onto l.lits l.names (drop l.lit-index l.clause) ≡ lits_onto [] l.fn.names l.clause;
  names : names_after l.names (drop l.lit-index l.clause) ≡ names_after l.fn.names l.clause;
}
