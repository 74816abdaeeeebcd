-- What contracts see of a slot of the watches.
use Rattle.std.specs.Prelude.{ℕ}
use Rattle.gp_clause.specs.declared.lit.Lit.{Lit}

-- the literal that it watches, and the next slot that watches the same, as one more than its number, or 0 for none
pub record Slot : Type 0 where
  pub lit : Lit
  pub next : ℕ
