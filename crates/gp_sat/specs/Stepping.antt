-- The walk along the slots that watch a literal which fell.
use Rattle.std.specs.Prelude.{◌≡◌, ◌≢◌, ℕ, ◌+◌, ◌<◌, not, Option, Some, None, List, [], length, Contains}
use Rattle.gp_clause.specs.declared.lit.Lit.{Lit}
use Rattle.gp_sat.specs.declared.assigned.Assigned.{Assigned}
use Rattle.gp_sat.specs.declared.walk.Judged.{Judged}
use Rattle.gp_sat.specs.declared.walk.Judged.TheVariants.{Off, Holds, Moves, Forces, Fails}
use Rattle.gp_sat.specs.declared.walk.Stand.{Stand}
use Rattle.gp_sat.specs.declared.walk.Stand.TheVariants.{True, False, Free}
use Rattle.gp_sat.specs.State.{SolverForm, assigned, clause_at, IsAttached}
use Rattle.gp_sat.specs.Standing.{IsFalse, EachOther}
use Rattle.gp_sat.specs.Looking.{IsTrueLit}
use Rattle.gp_sat.specs.Sound.{IsSound}
use Rattle.gp_sat.specs.Changes.{IsConflict, Propagates}
use Rattle.gp_sat.specs.Links.{steps}
use Rattle.gp_sat.specs.WatchesForm.{WatchesForm}
use Rattle.gp_sat.specs.Watching.{AreWatched, AreLooked, watch_at, next_at, link_at}
use Rattle.gp_sat.specs.Linked.{IsLinked}

-- how a literal stands
abbrev pub StandsAs : (ℕ → Option Assigned) → Lit → Stand → Type 0
StandsAs values lit True = IsTrueLit values lit
StandsAs values lit False = IsFalse values lit
StandsAs values lit Free = values lit.variable ≡ None

-- a literal to watch: it is not false, and another one than the one that is watched
abbrev pub IsPick : (ℕ → Option Assigned) → List Lit → Lit → Lit → Type 0
IsPick values clause other lit = Contains clause lit × (lit ≢ other) × (IsFalse values lit → ⊥)

-- a clause has a literal that is watched, and another one, which fell
pub record HasFallenBeside (values : ℕ → Option Assigned) (clause : List Lit) (other : Lit) : Type 0 where
  pub fallen : Lit
  pub one : Contains clause fallen
  pub two : Contains clause other
  pub differ : fallen ≢ other
  pub fell : IsFalse values fallen

-- what becomes of a slot whose literal fell, by its clause and the other literal that this watches
abbrev pub JudgesAs : SolverForm → ℕ → Lit → Judged → Type 0
JudgesAs s number other Off = IsAttached s.clauses number → ⊥
JudgesAs s number other Holds = IsTrueLit (assigned s) other
JudgesAs s number other (Moves lit) = IsPick (assigned s) (clause_at s.clauses number) other lit
JudgesAs s number other Forces = IsAttached s.clauses number × (assigned s other.variable ≡ None) × EachOther (IsFalse (assigned s)) (clause_at s.clauses number) other
JudgesAs s number other Fails = IsAttached s.clauses number × IsFalse (assigned s) other × EachOther (IsFalse (assigned s)) (clause_at s.clauses number) other

-- a literal fell at the present level, and its place is the last one before the cursor
pub record HasFallen (s : SolverForm) (cursor : ℕ) (fallen : Lit) : Type 0 where
  pub value : Assigned
  pub is : assigned s fallen.variable ≡ Some value
  pub opposes : value.positive ≡ not fallen.positive
  pub present : value.level ≡ s.level
  pub there : value.place + 1 ≡ cursor

-- on the walk the slots of the work list are skipped
pub record IsWalking (s : SolverForm) (w : WatchesForm) (fallen : Lit) : Type 0 where
  pub sound : IsSound s
  pub lists : ℕ → List ℕ
  pub linked : IsLinked s.clauses (length s.values) w fallen lists
  pub watched : AreWatched s (watch_at w.slots) w.linked w.cursor (λ x. Contains (lists 0) x)
  pub fell : HasFallen s w.cursor fallen

-- after a conflict the slots of the work list are given back
pub record IsReturning (s : SolverForm) (w : WatchesForm) (fallen : Lit) : Type 0 where
  pub sound : IsSound s
  pub lists : ℕ → List ℕ
  pub linked : IsLinked s.clauses (length s.values) w fallen lists
  pub watched : AreWatched s (watch_at w.slots) w.linked w.cursor (λ x. ⊥)
  pub named : fallen.variable < length s.values

-- between walks the work list is empty
pub record IsIdle (s : SolverForm) (w : WatchesForm) : Type 0 where
  pub sound : IsSound s
  pub lists : ℕ → List ℕ
  pub fallen : Lit
  pub empty : lists 0 ≡ []
  pub linked : IsLinked s.clauses (length s.values) w fallen lists
  pub watched : AreWatched s (watch_at w.slots) w.linked w.cursor (λ x. ⊥)

-- between walks the short clauses that were looked at are true
pub record IsReady (s : SolverForm) (w : WatchesForm) : Type 0 where
  pub idle : IsIdle s w
  pub short : AreLooked s w.shorts w.looked

-- the list of short clauses stays as it is
pub record KeepsShorts (w left : WatchesForm) : Type 0 where
  pub shorts : left.shorts ≡ w.shorts
  pub looked : left.looked ≡ w.looked

-- how many slots the work list has
abbrev pub work : WatchesForm → ℕ
work w = steps (next_at w.slots) (length w.slots) (link_at w.heads 0)

-- a step of the walk went on, with fewer slots on the work list
pub record GoesOn (new : SolverForm) (w left : WatchesForm) (fallen : Lit) : Type 0 where
  pub walking : IsWalking new left fallen
  pub linked : left.linked ≡ w.linked
  pub cursor : left.cursor ≡ w.cursor
  pub fewer : work left < work w
  pub kept : KeepsShorts w left

-- a walk met a clause that is false
pub record Stops (new : SolverForm) (w left : WatchesForm) (fallen : Lit) (number : ℕ) : Type 0 where
  pub returning : IsReturning new left fallen
  pub conflict : IsConflict new number
  pub kept : KeepsShorts w left

-- a walk came to its end with no false clause, or met one
pub record IsDone (new : SolverForm) (w left : WatchesForm) : Type 0 where
  pub idle : IsIdle new left
  pub linked : left.linked ≡ w.linked
  pub cursor : left.cursor ≡ w.cursor + 1
  pub kept : KeepsShorts w left

pub record IsBroken (new : SolverForm) (w left : WatchesForm) (number : ℕ) : Type 0 where
  pub idle : IsIdle new left
  pub conflict : IsConflict new number
  pub kept : KeepsShorts w left

-- on the way of a walk
pub record OnWalk (s now : SolverForm) (w left : WatchesForm) (fallen : Lit) : Type 0 where
  pub walking : IsWalking now left fallen
  pub added : Propagates s now
  pub linked : left.linked ≡ w.linked
  pub cursor : left.cursor ≡ w.cursor + 1
  pub kept : KeepsShorts w left
