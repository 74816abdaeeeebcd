-- What contracts see of a clause under its number.
use Rattle.std.specs.Prelude.{Bool, List}
use Rattle.gp_clause.specs.declared.lit.Lit.{Lit}

-- the literals of a clause, and whether it is attached
pub record Stored : Type 0 where
  pub clause : List Lit
  pub attached : Bool
