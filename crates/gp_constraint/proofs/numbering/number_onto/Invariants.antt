use Rattle.std.proofs.Common.{◌≡◌, ◌++◌, drop}
use Rattle.gp_constraint.specs.Numbering.{names_of, numbered}
use Rattle.gp_constraint.specs.Signed.{AreSigned}
use Rattle.gp_constraint.proofs.numbering.number_onto.Given as goal

abbrev pub invariant-loop-clause : goal.invariant-loop-clause
invariant-loop-clause l = record {
  row : l.row ++ numbered l.names (drop l.clause-index l.clauses) ≡ l.initial.row ++ numbered l.initial.names l.clauses;
  names : names_of l.names (drop l.clause-index l.clauses) ≡ names_of l.initial.names l.clauses;
  signed : AreSigned (drop l.clause-index l.clauses);
}
