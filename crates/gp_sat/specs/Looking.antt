-- What a look at a clause finds.
use Rattle.std.specs.Prelude.{◌≡◌, ◌≢◌, ℕ, Option, Some, None, List, Contains}
use Rattle.gp_clause.specs.declared.lit.Lit.{Lit}
use Rattle.gp_sat.specs.declared.assigned.Assigned.{Assigned}
use Rattle.gp_sat.specs.Standing.{IsFalse, EachOther}

-- a literal is true
abbrev pub IsTrueLit : (ℕ → Option Assigned) → Lit → Type 0
IsTrueLit values lit = (a : Assigned) × (values lit.variable ≡ Some a) × (a.positive ≡ lit.positive)

-- a clause has a true literal
abbrev pub HasTrue : (ℕ → Option Assigned) → List Lit → Type 0
HasTrue values lits = (lit : Lit) × Contains lits lit × IsTrueLit values lit

-- a clause has two unassigned literals
abbrev pub HasTwoFree : (ℕ → Option Assigned) → List Lit → Type 0
HasTwoFree values lits = (lit : Lit) × (other : Lit) × (Contains lits lit × Contains lits other × (lit ≢ other) × (values lit.variable ≡ None) × (values other.variable ≡ None))

-- one literal of a clause is unassigned and the others are false
pub record IsUnit (values : ℕ → Option Assigned) (lits : List Lit) (lit : Lit) : Type 0 where
  pub within : Contains lits lit
  pub free : values lit.variable ≡ None
  pub others : EachOther (IsFalse values) lits lit
