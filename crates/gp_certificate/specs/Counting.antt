-- How many literals of a clause may still be true, counted down as the negations of literals become true, and up again as these
-- are taken back.
use Rattle.std.specs.Prelude.{ℕ, ◌≡◌, ◌⊎◌, ◌≤◌, Bool, not, List, ◌++◌, Option, Some, length, take, count_by, slice_get, All, Any, Contains}
use Rattle.std.specs.List.{list_any}
use Rattle.gp_clause.specs.declared.lit.Lit.{Lit}
use Rattle.gp_clause.specs.Closure.{Conflicts, IsTrueIn}
use Rattle.gp_clause.specs.Lit.{lit_eq, opposite}
use Rattle.gp_certificate.specs.declared.assignment.Assignment.{Assignment}
use Rattle.gp_certificate.specs.Assignment.{value_of, IsKept, IsClosing}
use Rattle.gp_certificate.specs.Loaded.{LoadedForm}
use Rattle.gp_certificate.specs.Rows.{clause_at, left_at}

-- the negation of a literal is among some literals
abbrev pub fell : List Lit → Lit → Bool
fell fallen lit = list_any (λ other. lit_eq other (opposite lit)) fallen

-- how many literals of a clause did not fall
abbrev pub standing : List Lit → List Lit → ℕ
standing fallen clause = count_by (λ lit. not (fell fallen lit)) clause

-- a clause needs no look where a literal of it is true, or where two did not fall
abbrev pub IsDone : List Lit → List (Option Bool) → List Lit → Type 0
IsDone fallen values clause = Any (IsTrueIn (value_of values)) clause ⊎ (2 ≤ standing fallen clause)

-- no clause needs a look
abbrev pub AreDone : List Lit → List (Option Bool) → List (List Lit) → Type 0
AreDone fallen values clauses = All (IsDone fallen values) clauses

-- the count of each clause is that of its literals that did not fall
pub record AreExact (fallen : List Lit) (clauses : List (List Lit)) (left : List ℕ) : Type 0 where
  pub size : length left ≡ length clauses
  pub each : (number : ℕ) → left_at left number ≡ standing fallen (clause_at clauses number)

-- the trail was gone through up to the cursor, and each count is exact
pub record IsExact (assignment : Assignment) (loaded : LoadedForm) : Type 0 where
  pub within : assignment.cursor ≤ length assignment.trail.items
  pub counts : AreExact (take assignment.cursor assignment.trail.items) loaded.clauses loaded.left

-- either nothing was gone through, or no clause needs a look for what was
abbrev pub HasBegun : Assignment → List (List Lit) → Type 0
HasBegun assignment clauses = (assignment.cursor ≡ 0) ⊎ AreDone (take assignment.cursor assignment.trail.items) assignment.values.items clauses

-- the whole trail was gone through, and no clause needs a look
pub record IsThrough (assignment : Assignment) (clauses : List (List Lit)) : Type 0 where
  pub all : assignment.cursor ≡ length assignment.trail.items
  pub done : AreDone assignment.trail.items assignment.values.items clauses

-- an assignment grew: what was true is true, and the trail went on
pub record Extends (old new : Assignment) : Type 0 where
  pub kept : IsKept new
  pub size : length new.values.items ≡ length old.values.items
  pub trues : (lit : Lit) → IsTrueIn (value_of old.values.items) lit → IsTrueIn (value_of new.values.items) lit
  pub trail : (more : List Lit) × (new.trail.items ≡ old.trail.items ++ more)

-- each way to a closure goes on
abbrev pub StaysClosing : List (List Lit) → Assignment → Assignment → Type 0
StaysClosing clauses old new = (start : List Lit) → IsClosing start clauses old → IsClosing start clauses new

-- some clause is false
abbrev pub FindsConflict : List (List Lit) → Assignment → Type 0
FindsConflict clauses old = (start : List Lit) → IsClosing start clauses old → Conflicts start clauses

-- a propagation went on: counts alone changed, and they are exact
pub record GoesOn (old new : Assignment) (before after : LoadedForm) : Type 0 where
  pub extends : Extends old new
  pub closing : StaysClosing before.clauses old new
  pub exact : IsExact new after
  pub onward : old.cursor ≤ new.cursor
  pub same : after ≡ record before { left = after.left }

-- the clauses of some numbers need no look, whatever fell of what was true, where the counts are exact
abbrev pub LooksAt : LoadedForm → Assignment → Assignment → List ℕ → Type 0
LooksAt loaded old new numbers = (fallen : List Lit) → All (Contains old.trail.items) fallen → AreExact fallen loaded.clauses loaded.left
    → (number : ℕ) (clause : List Lit) → Contains numbers number → slice_get loaded.clauses number ≡ Some clause → IsDone fallen new.values.items clause
