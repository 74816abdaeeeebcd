-- What the analysis of a conflict learns.
use Rattle.std.specs.Prelude.{◌≡◌, ℕ, ◌+◌, ◌<◌, ◌≤◌, ◌⊎◌, Some, None, List, [], ◌∷◌, map, Contains}
use Rattle.gp_clause.specs.declared.lit.Lit.{Lit}
use Rattle.gp_clause.specs.Lit.{negations}
use Rattle.gp_clause.specs.Closure.{Conflicts}
use Rattle.gp_sat.specs.declared.assigned.Assigned.{Assigned}
use Rattle.gp_sat.specs.declared.analysis.Learned.{Learned}
use Rattle.gp_sat.specs.State.{SolverForm, assigned, clause_at}
use Rattle.gp_sat.specs.Standing.{IsFalse, Each, EachOther}
use Rattle.gp_sat.specs.Changes.{IsOfLevel}

-- the clauses of some numbers
abbrev pub hinted : SolverForm → List ℕ → List (List Lit)
hinted s hints = map (clause_at s.clauses) hints

-- the clause of a number is the reason of a literal of the trail
abbrev pub IsReason : SolverForm → ℕ → Type 0
IsReason s number = (variable : ℕ) × (a : Assigned) × (assigned s variable ≡ Some a) × (a.reason ≡ Some number)

-- a clause follows from a conflict: unit clauses among the hints and the conflict derive a false clause from its negation
pub record IsLearned (s : SolverForm) (conflict : List Lit) (clause : List Lit) (hints : List ℕ) : Type 0 where
  pub passes : Conflicts (negations clause) (conflict ∷ hinted s hints)
  pub reasons : (number : ℕ) → Contains hints number → IsReason s number
  pub all_false : Each (IsFalse (assigned s)) clause

-- a literal is of a level below another one
abbrev pub IsBelowLevel : SolverForm → ℕ → Lit → Type 0
IsBelowLevel s level lit = (a : Assigned) × (assigned s lit.variable ≡ Some a) × (a.level < level)

-- exactly one literal of a clause is of the present level
pub record HasOnePresent (s : SolverForm) (clause : List Lit) : Type 0 where
  pub lit : Lit
  pub within : Contains clause lit
  pub present : IsOfLevel s s.level lit
  pub others : EachOther (IsBelowLevel s s.level) clause lit

-- a level is the highest of the literals below the present level, and 0 where there is none
pub record IsHighestBelow (s : SolverForm) (clause : List Lit) (level : ℕ) : Type 0 where
  pub highest : (lit : Lit) (a : Assigned) → Contains clause lit → assigned s lit.variable ≡ Some a → a.level < s.level → a.level ≤ level
  pub reached : (level ≡ 0) ⊎ ((lit : Lit) × Contains clause lit × IsOfLevel s level lit × (level < s.level))

-- a variable leads to a conflict through literals of the present level that were assigned from a place on: the conflict
-- names it, or the reason of such a literal does
pub data LeadsTo (s : SolverForm) (conflict : List Lit) (place : ℕ) : ℕ → Type 0 where
  in_conflict : (variable : ℕ) (lit : Lit) → Contains conflict lit → lit.variable ≡ variable → LeadsTo s conflict place variable
  in_reason : (variable later : ℕ) (a : Assigned) (number : ℕ) (lit : Lit) → LeadsTo s conflict place later → assigned s later ≡ Some a → a.level ≡ s.level → place ≤ a.place
      → a.reason ≡ Some number → Contains (clause_at s.clauses number) lit → lit.variable ≡ variable → LeadsTo s conflict place variable

-- a unique implication point: of the literals of the present level up to it, it alone leads to the conflict through later ones
pub record IsUniquePoint (s : SolverForm) (conflict : List Lit) (variable : ℕ) (a : Assigned) : Type 0 where
  pub is : assigned s variable ≡ Some a
  pub present : a.level ≡ s.level
  pub leads : LeadsTo s conflict (a.place + 1) variable
  pub alone : (other : ℕ) (b : Assigned) → assigned s other ≡ Some b → b.level ≡ s.level → b.place ≤ a.place → LeadsTo s conflict (a.place + 1) other → other ≡ variable

-- a literal of the present level stands in a clause that was not assigned before a place
abbrev pub HasPresentFrom : SolverForm → List Lit → ℕ → Type 0
HasPresentFrom s clause place = (lit : Lit) × (a : Assigned) × Contains clause lit × (assigned s lit.variable ≡ Some a) × (a.level ≡ s.level) × (place ≤ a.place)

-- the answer of an analysis: its clause has one literal of the present level, the first unique implication point, before
-- which each other one was assigned, and no literal of level 0
pub record IsFirstPoint (s : SolverForm) (conflict : List Lit) (answer : Learned) : Type 0 where
  pub learned : IsLearned s conflict answer.clause answer.hints
  pub point : HasOnePresent s answer.clause
  pub level : IsHighestBelow s answer.clause answer.level
  pub first : (variable : ℕ) (a : Assigned) → IsUniquePoint s conflict variable a → HasPresentFrom s answer.clause a.place
  pub above : (lit : Lit) (a : Assigned) → Contains answer.clause lit → assigned s lit.variable ≡ Some a → 0 < a.level

-- the variable of a literal was decided
abbrev pub IsDecided : SolverForm → Lit → Type 0
IsDecided s lit = (a : Assigned) × (assigned s lit.variable ≡ Some a) × (a.reason ≡ None)

-- the answer of a final analysis: its clause has negated decisions alone
pub record IsFinal (s : SolverForm) (conflict : List Lit) (answer : Learned) : Type 0 where
  pub learned : IsLearned s conflict answer.clause answer.hints
  pub decisions : Each (IsDecided s) answer.clause
  pub empty : s.level ≡ 0 → answer.clause ≡ []
  pub level : answer.level ≡ 0
