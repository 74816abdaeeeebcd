-- The literals that a clause watches first.
use Rattle.std.specs.Prelude.{◌≡◌, ◌≢◌, ℕ, ◌+◌, ◌-◌, ◌<◌, ◌≤◌, ◌⊎◌, Option, Some, None, List, length, Contains}
use Rattle.gp_clause.specs.declared.lit.Lit.{Lit}
use Rattle.gp_sat.specs.declared.assigned.Assigned.{Assigned}
use Rattle.gp_sat.specs.declared.pending.Chosen.{Chosen}
use Rattle.gp_sat.specs.declared.pending.Chosen.TheVariants.{Lone, Open, Unit}
use Rattle.gp_sat.specs.declared.pending.Chosen.TheVariants.{False as NoneOpen}
use Rattle.gp_sat.specs.declared.propagation.Passed.{Passed}
use Rattle.gp_sat.specs.declared.propagation.Passed.TheVariants.{Quiet, False, Forced}
use Rattle.gp_sat.specs.Standing.{IsClosed}
use Rattle.gp_sat.specs.Changes.{IsConflict}
use Rattle.gp_sat.specs.State.{SolverForm, assigned, with_literal}
use Rattle.gp_sat.specs.Sound.{IsSound}
use Rattle.gp_sat.specs.Standing.{IsFalse, Each, EachOther}
use Rattle.gp_sat.specs.Looking.{IsTrueLit}
use Rattle.gp_sat.specs.WatchesForm.{WatchesForm}
use Rattle.gp_sat.specs.Stepping.{IsPick, IsIdle, IsReady, KeepsShorts}

-- the level of an assignment
abbrev pub level_of : Option Assigned → ℕ
level_of None = 0
level_of (Some a) = a.level

-- of the literals but one, another one was assigned at the highest level
pub record IsHighest (values : ℕ → Option Assigned) (lits : List Lit) (one two : Lit) : Type 0 where
  pub within : Contains lits two
  pub apart : two ≢ one
  pub highest : (other : Lit) → Contains lits other → other ≢ one → level_of (values other.variable) ≤ level_of (values two.variable)

-- the best so far
abbrev pub IsBest : (ℕ → Option Assigned) → List Lit → Lit → Option Lit → Type 0
IsBest values lits one None = Each (λ lit. lit ≡ one) lits
IsBest values lits one (Some two) = IsHighest values lits one two

-- a literal of a clause is not false
abbrev pub IsOpen : (ℕ → Option Assigned) → List Lit → Lit → Type 0
IsOpen values lits lit = Contains lits lit × (IsFalse values lit → ⊥)

-- what is chosen: all literals are false, or there is one alone, or two that are not false, or one and the highest of the
-- others, which are false
abbrev pub ChosenAs : (ℕ → Option Assigned) → List Lit → Chosen → Type 0
ChosenAs values lits NoneOpen = Each (IsFalse values) lits
ChosenAs values lits (Lone one) = IsOpen values lits one × Each (λ lit. lit ≡ one) lits × (length lits < 2)
ChosenAs values lits (Open one two) = IsOpen values lits one × IsPick values lits one two
ChosenAs values lits (Unit one two) = IsOpen values lits one × EachOther (IsFalse values) lits one × IsHighest values lits one two

-- a literal that is not false is true then, and was, or was added
pub record Holds (old new : SolverForm) (lit : Lit) (number : ℕ) : Type 0 where
  pub holds : IsTrueLit (assigned new) lit
  pub sound : IsSound new
  pub how : (new ≡ old) ⊎ ((assigned old lit.variable ≡ None) × (new ≡ with_literal old lit old.level (Some number)))

-- one more clause was linked
pub record IsMore (new : SolverForm) (w left : WatchesForm) : Type 0 where
  pub idle : IsIdle new left
  pub linked : left.linked ≡ w.linked + 1
  pub cursor : left.cursor ≡ w.cursor
  pub kept : KeepsShorts w left

-- one more short clause was looked at, or dropped
pub record IsShorter (new : SolverForm) (w left : WatchesForm) : Type 0 where
  pub ready : IsReady new left
  pub linked : left.linked ≡ w.linked
  pub cursor : left.cursor ≡ w.cursor
  pub fewer : length left.shorts - left.looked < length w.shorts - w.looked

-- how much is left to look at
abbrev pub left_over : SolverForm → WatchesForm → ℕ
left_over s w = (length s.clauses - w.linked) + (length w.shorts - w.looked) + (length s.values - w.cursor)

-- one step of a propagation
abbrev pub IsAdvanced : SolverForm → SolverForm → WatchesForm → WatchesForm → Passed → Type 0
IsAdvanced old new w left Quiet = IsReady new left × IsClosed new new.level × (length new.trail ≤ left.cursor)
IsAdvanced old new w left (False number) = IsReady new left × IsConflict new number
IsAdvanced old new w left Forced = IsReady new left × (left_over new left < left_over old w)
