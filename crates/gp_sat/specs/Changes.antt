-- What the calls of a solver change.
use Rattle.std.specs.Prelude.{◌≡◌, ℕ, ◌<◌, ◌≤◌, ◌⊎◌, ◌+◌, Option, Some, None, List, ◌++◌, length, map, Contains}
use Rattle.gp_clause.specs.declared.lit.Lit.{Lit}
use Rattle.gp_sat.specs.declared.assigned.Assigned.{Assigned}
use Rattle.gp_sat.specs.declared.propagation.Propagated.{Propagated}
use Rattle.gp_sat.specs.declared.propagation.Propagated.TheVariants.{Quiet, False}
use Rattle.gp_sat.specs.State.{SolverForm, assigned, clause_at, IsAttached, kept_to}
use Rattle.gp_sat.specs.Standing.{IsFalse, IsForcing, IsClosed, Each, EachOther}
use Rattle.gp_sat.specs.Sound.{true_lit}

-- a literal is of a level
abbrev pub IsOfLevel : SolverForm → ℕ → Lit → Type 0
IsOfLevel s level lit = (a : Assigned) × (assigned s lit.variable ≡ Some a) × (a.level ≡ level)

-- one literal of a clause is of the present level
abbrev pub HasPresent : SolverForm → List Lit → Type 0
HasPresent s clause = (lit : Lit) × Contains clause lit × IsOfLevel s s.level lit

-- one literal of a clause is unassigned, and all others are false, one of them at the present level
pub record IsAsserting (s : SolverForm) (clause : List Lit) : Type 0 where
  pub lit : Lit
  pub within : Contains clause lit
  pub unassigned : assigned s lit.variable ≡ None
  pub others : EachOther (IsFalse (assigned s)) clause lit
  pub present : HasPresent s clause

-- a clause may be attached at level 0, and above it where it asserts a literal
abbrev pub MayAttach : SolverForm → List Lit → Type 0
MayAttach s clause = (s.level ≡ 0) ⊎ IsAsserting s clause

-- what a literal needs to be added at a level: a decision begins the next one, and another literal has a clause that forces it
pub record MayAdd (s : SolverForm) (lit : Lit) (level : ℕ) (reason : Option ℕ) : Type 0 where
  pub within : lit.variable < length s.values
  pub free : assigned s lit.variable ≡ None
  pub above : s.level ≤ level
  pub few : level ≤ s.level + 1
  pub decided : reason ≡ None → s.level < level
  pub forced : (number : ℕ) → reason ≡ Some number → (number < length s.clauses) × IsForcing (assigned s) (clause_at s.clauses number) lit (length s.trail)
  pub closed : (low : ℕ) → low < level → IsClosed s low

-- an assignment is new: an attached clause forces it at the present level
pub record IsForced (old new : SolverForm) (variable : ℕ) (a : Assigned) : Type 0 where
  pub later : length old.trail ≤ a.place
  pub present : a.level ≡ new.level
  pub number : ℕ
  pub reason : a.reason ≡ Some number
  pub attached : IsAttached new.clauses number
  pub forcing : IsForcing (assigned new) (clause_at new.clauses number) (true_lit variable a) a.place

-- literals that clauses force are added to the trail, and nothing else changes
pub record Propagates (old new : SolverForm) : Type 0 where
  pub level : new.level ≡ old.level
  pub clauses : new.clauses ≡ old.clauses
  pub order : new.order ≡ old.order
  pub used : new.used ≡ old.used
  pub variables : length new.values ≡ length old.values
  pub added : (lits : List Lit) × (new.trail ≡ old.trail ++ lits)
  pub stays : (variable : ℕ) (a : Assigned) → assigned old variable ≡ Some a → assigned new variable ≡ Some a
  pub forced : (variable : ℕ) (a : Assigned) → assigned new variable ≡ Some a → (assigned old variable ≡ Some a) ⊎ IsForced old new variable a

-- an attached clause is false
abbrev pub IsConflict : SolverForm → ℕ → Type 0
IsConflict s number = IsAttached s.clauses number × Each (IsFalse (assigned s)) (clause_at s.clauses number)

-- either the trail is closed at the present level, or a clause is false
abbrev pub IsPropagated : SolverForm → Propagated → Type 0
IsPropagated s Quiet = IsClosed s s.level
IsPropagated s (False number) = IsConflict s number

-- a literal of the trail was assigned at a level or below it
abbrev pub IsUpTo : SolverForm → ℕ → Lit → Type 0
IsUpTo s level lit = (a : Assigned) × (assigned s lit.variable ≡ Some a) × (a.level ≤ level)

-- a literal of the trail was assigned above a level
abbrev pub IsAbove : SolverForm → ℕ → Lit → Type 0
IsAbove s level lit = (a : Assigned) × (assigned s lit.variable ≡ Some a) × (level < a.level)

-- the assignments up to a level stay, and with them the front of the trail
pub record Backjumps (old new : SolverForm) (level : ℕ) : Type 0 where
  pub reached : new.level ≡ level
  pub clauses : new.clauses ≡ old.clauses
  pub order : new.order ≡ old.order
  pub used : new.used ≡ old.used
  pub values : new.values ≡ map (kept_to level) old.values
  pub rest : List Lit
  pub trail : new.trail ++ rest ≡ old.trail
  pub stays : Each (IsUpTo old level) new.trail
  pub goes : Each (IsAbove old level) rest
