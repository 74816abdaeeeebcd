-- Literals with variables below a number.
use Rattle.std.specs.Prelude.{ℕ, ◌<◌, List}
use Rattle.std.specs.List.{AllByRecursion}
use Rattle.gp_clause.specs.declared.lit.Lit.{Lit}

-- each variable is below the number
abbrev pub AreBelow : ℕ → List Lit → Type 0
AreBelow above lits = AllByRecursion (λ (lit : Lit). lit.variable < above) lits
