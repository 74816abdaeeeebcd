-- The variables of all that is assumed.
use Rattle.std.specs.Prelude.{List, ◌++◌}
use Rattle.gp_clause.specs.declared.lit.Lit.{Lit}
use Rattle.gp_clause.specs.Clause.{NamesOnce}
use Rattle.gp_certificate.specs.ClauseList.{joined}

-- no variable stands twice in all that is assumed with some more literals
abbrev pub NamesOnceWith : List (List Lit) → List Lit → Type 0
NamesOnceWith assumed lits = NamesOnce (joined assumed ++ lits)
