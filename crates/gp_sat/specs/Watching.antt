-- The literals that clauses watch.
use Rattle.std.specs.Prelude.{◌≡◌, ◌≢◌, ℕ, ◌+◌, ◌*◌, ◌<◌, ◌≤◌, ◌⊎◌, Bool, true, false, Option, Some, List, length, Contains, slice_index, slice_index_or}
use Rattle.gp_clause.specs.declared.lit.Lit.{Lit}
use Rattle.gp_sat.specs.declared.assigned.Assigned.{Assigned}
use Rattle.gp_sat.specs.Stored.{Stored}
use Rattle.gp_sat.specs.Slot.{Slot}
use Rattle.gp_sat.specs.State.{SolverForm, assigned, clause_at, IsAttached}
use Rattle.gp_sat.specs.Standing.{IsFalseBefore}

-- the two slots of a clause
abbrev pub ArePartners : ℕ → ℕ → ℕ → Type 0
ArePartners number x y = ((x ≡ 2 * number) × (y ≡ 2 * number + 1)) ⊎ ((x ≡ 2 * number + 1) × (y ≡ 2 * number))

-- a literal is true by the assignments up to a level
abbrev pub IsTrueTo : ℕ → (ℕ → Option Assigned) → Lit → Type 0
IsTrueTo level values lit = (a : Assigned) × (values lit.variable ≡ Some a) × (a.positive ≡ lit.positive) × (a.level ≤ level)

-- where a literal is false before the cursor, the other one is true, at its level at most
abbrev pub IsSafe : (ℕ → Option Assigned) → ℕ → Lit → Lit → Type 0
IsSafe values cursor lit other = (fell : IsFalseBefore cursor values lit) → IsTrueTo fell.0.level values other

-- a clause is watched: it is attached, and has a number below the count of those that were linked
abbrev pub IsHeld : List Stored → ℕ → ℕ → Type 0
IsHeld clauses linked number = IsAttached clauses number × (number < linked)

abbrev pub IsLong : List Stored → ℕ → Type 0
IsLong clauses number = 2 ≤ length (clause_at clauses number)

-- a slot of a long clause watches a literal of it, another one than its partner, and is safe or skipped
pub record Watches (values : ℕ → Option Assigned) (cursor : ℕ) (skipped : ℕ → Type 0) (clause : List Lit) (watch : ℕ → Lit) (x y : ℕ) : Type 0 where
  pub within : Contains clause (watch x)
  pub differs : watch x ≢ watch y
  pub safe : skipped x ⊎ IsSafe values cursor (watch x) (watch y)

-- a clause without a pair of literals to watch has one that is true at level 0
abbrev pub IsSettled : (ℕ → Option Assigned) → List Lit → Type 0
IsSettled values clause = (lit : Lit) × Contains clause lit × IsTrueTo 0 values lit

-- the clauses of fewer than two literals stand in a list of their own, and those that were looked at are true at level 0
pub record AreLooked (s : SolverForm) (shorts : List ℕ) (looked : ℕ) : Type 0 where
  pub all : (number : ℕ) → IsAttached s.clauses number → length (clause_at s.clauses number) < 2 → Contains shorts number
  pub real : (number : ℕ) → Contains shorts number → (number < length s.clauses) × (length (clause_at s.clauses number) < 2)
  pub settled : (k : ℕ) → k < looked → IsAttached s.clauses (slice_index shorts k) → IsSettled (assigned s) (clause_at s.clauses (slice_index shorts k))
  pub within : looked ≤ length shorts

-- the clauses that are held are watched, and the assignments from the cursor on are of the present level
pub record AreWatched (s : SolverForm) (watch : ℕ → Lit) (linked cursor : ℕ) (skipped : ℕ → Type 0) : Type 0 where
  pub long : (number x y : ℕ) → IsHeld s.clauses linked number → IsLong s.clauses number → ArePartners number x y
      → Watches (assigned s) cursor skipped (clause_at s.clauses number) watch x y
  pub fresh : (variable : ℕ) (a : Assigned) → assigned s variable ≡ Some a → cursor ≤ a.place → a.level ≡ s.level
  pub cursor_in : cursor ≤ length s.trail
  pub linked_in : linked ≤ length s.clauses

-- the number of the list of a literal: 0 is that of the work list
abbrev pub sign_of : Bool → ℕ
sign_of true = 1
sign_of false = 0

abbrev pub code : Lit → ℕ
code lit = 2 * lit.variable + 2 + sign_of lit.positive

-- the link of a list, and of a slot, and the literal that a slot watches
abbrev pub link_at : List ℕ → ℕ → ℕ
link_at heads l = slice_index_or heads l 0

abbrev pub no_slot : Slot
no_slot = record { lit = record { variable = 0; positive = false }; next = 0 }

abbrev pub next_at : List Slot → ℕ → ℕ
next_at slots x = (slice_index_or slots x no_slot).next

abbrev pub watch_at : List Slot → ℕ → Lit
watch_at slots x = (slice_index_or slots x no_slot).lit
