-- How many clauses there are.
use Rattle.std.specs.Prelude.{ℕ, ◌≢◌, ◌<◌, ◌^◌, List, length, All, AllPairs}
use Rattle.gp_clause.specs.declared.lit.Lit.{Lit}
use Rattle.gp_clause.specs.Clause.{IsRising, NamesBelow}

-- clauses over so many variables of which none is empty and no two are the same
pub record AreDistinctClauses (variables : ℕ) (clauses : List (List Lit)) : Type 0 where
  pub rising : All IsRising clauses
  pub named : All (NamesBelow variables) clauses
  pub filled : All (λ (clause : List Lit). 0 < length clause) clauses
  pub distinct : AllPairs (λ (clause other : List Lit). clause ≢ other) clauses

-- there are fewer such clauses than three to the power of the number of variables: each variable is missing, stands in a
-- clause, or stands in it negated
abbrev pub ClausesAreFew : Type 0
ClausesAreFew = (variables : ℕ) (clauses : List (List Lit)) → AreDistinctClauses variables clauses → length clauses < 3 ^ variables
