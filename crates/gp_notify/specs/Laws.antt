-- Laws: signals in answers and in schedules, the sleeps of wakes, and numbers that are lifted.
use Rattle.std.specs.Prelude.{ℕ, ℤ, ◌≡◌, ◌↔◌, ◌<◌, ◌≤◌, ◌+◌, ◌++◌, Bool, All, List, Some, None, length, slice_get}
use Rattle.std.specs.Bool.{Decides}
use Rattle.gp_clause.specs.declared.kind.Kind.{Kind}
use Rattle.gp_clause.specs.declared.lit.Lit.{Lit}
use Rattle.gp_clause.specs.declared.problem.Problem.{Problem}
use Rattle.gp_clause.specs.declared.problem.Query.{Query}
use Rattle.gp_clause.specs.declared.valuation.Valuation.{Valuation}
use Rattle.gp_clause.specs.Clause.{HoldsAll, NamesBelow}
use Rattle.gp_clause.specs.Edge.{IsSolvable}
use Rattle.gp_clause.specs.Kind.{FitsKind}
use Rattle.gp_clause.specs.Lit.{HoldsLit}
use Rattle.gp_clause.specs.Problem.{IsValidProblem, IsValidQuery}
use Rattle.gp_clause.specs.Valuation.{IsValuation, Meets}
use Rattle.gp_window.specs.declared.schedule.EventId.{EventId}
use Rattle.gp_window.specs.Events.{segment_of}
use Rattle.gp_window.specs.WindowForm.{WindowForm}
use Rattle.gp_replay.specs.Feasible.{IsFeasible}
use Rattle.gp_constraint.specs.declared.point.Point.{Point}
use Rattle.gp_constraint.specs.Base.{base_of, clauses_of}
use Rattle.gp_constraint.specs.ByPlace.{IsByPlace}
use Rattle.gp_constraint.specs.Points.{number_in, points_of}
use Rattle.gp_constraint.specs.ScheduleModels.{ScheduleModel}
use Rattle.gp_constraint.specs.Signed.{AreSigned}
use Rattle.gp_notify.specs.declared.pair.Pair.{Pair}
use Rattle.gp_notify.specs.Calls.{Wakes}
use Rattle.gp_notify.specs.Deciding.{is_signalled}
use Rattle.gp_notify.specs.Extended.{extended_of, lift, lower}
use Rattle.gp_notify.specs.Lift.{enlarged, lifted, lowered, raised}
use Rattle.gp_notify.specs.Pairs.{pairs_of}
use Rattle.gp_notify.specs.Signalled.{IsSignalled, IsSleepOf}
use Rattle.gp_notify.specs.Signals.{signals_of, unpaired}
use Rattle.gp_notify.specs.Sleeping.{slept_at}

-- the wake has a sleep
abbrev pub HasSleep : WindowForm → List ℕ → EventId → Type 0
HasSleep window condition wake = (sleep : EventId) × IsSleepOf window condition wake sleep

-- the event is a wake without a sleep, and each wake with a lesser number has one
pub record IsFirstUnpaired (window : WindowForm) (id : EventId) : Type 0 where
  pub condition : List ℕ
  pub wakes : Wakes window condition id
  pub none : HasSleep window condition id → ⊥
  pub others : (wake : EventId) (other : List ℕ) → Wakes window other wake → number_in window wake < number_in window id → HasSleep window other wake

-- the first wake without a sleep is found; where there is none, each wake has a sleep
pub record SleepsAreFound : Type 0 where
  pub all : (window : WindowForm) → unpaired window ≡ None → (wake : EventId) (condition : List ℕ) → Wakes window condition wake → HasSleep window condition wake
  pub first : (window : WindowForm) (p : Point) → unpaired window ≡ Some p → IsFirstUnpaired window p.id

-- a look back along the thread of a wake finds its sleep
abbrev pub SleepsAreScanned : Type 0
SleepsAreScanned = (window : WindowForm) (condition : List ℕ) (wake sleep : EventId)
    → IsSleepOf window condition wake sleep ↔ ((sleep.thread ≡ wake.thread) × (slept_at condition (segment_of window wake.thread) wake.index ≡ Some sleep.index))

-- the test of a feasible schedule and its pairs is exact
abbrev pub TestIsExact : Type 0
TestIsExact = (window : WindowForm) (schedule : List EventId) (pairs : List Pair) → IsFeasible window schedule
    → Decides (is_signalled window schedule pairs) (IsSignalled window schedule pairs)

-- an answer to the problem with signals gives each front of its schedule, where that is feasible, pairs with which it is signalled
abbrev pub SignalsAreSound : Type 0
SignalsAreSound = (window : WindowForm) (query : Query) (valuation : Valuation) (schedule back : List EventId)
    → Meets (extended_of window) query valuation → IsByPlace window valuation (schedule ++ back) → IsFeasible window schedule
    → IsSignalled window schedule (pairs_of window schedule valuation)

-- up to the limits a model of a window and a query that says what a signalled schedule does gives one of the problem with
-- signals and the lifted query
abbrev pub SignalsAreAdded : Type 0
SignalsAreAdded = (window : WindowForm) (schedule : List EventId) (pairs : List Pair) (query : Query) → length (points_of window) ≤ 2048
    → length (clauses_of window) + length (signals_of window) ≤ 500000 → IsSignalled window schedule pairs
    → ScheduleModel window schedule (base_of window) ((base_of window).kinds ++ query.locals) query.assumed
    → ScheduleModel window schedule (extended_of window) ((extended_of window).kinds ++ (lift window query).locals) (lift window query).assumed

-- a model of a problem and a query
pub record IsModel (problem : Problem) (query : Query) (truth : ℕ → Bool) (place : ℕ → ℤ) : Type 0 where
  pub valuation : IsValuation problem.points problem.edges (problem.kinds ++ query.locals) truth place
  pub clauses : HoldsAll truth problem.clauses
  pub assumed : All (HoldsLit truth) query.assumed

-- the new variables and clauses of an enlarged problem hold
pub record HoldsNew (old : ℕ) (kinds : List Kind) (clauses : List (List Lit)) (truth : ℕ → Bool) (place : ℕ → ℤ) : Type 0 where
  pub fits : (k : ℕ) (kind : Kind) → slice_get kinds k ≡ Some kind → FitsKind place kind (truth (old + k))
  pub holds : HoldsAll truth clauses

-- an answer to an enlarged problem and a lifted query, without the new variables, is one to the problem and the query; and
-- truth values are a model of the former exactly where, so read, they are one of the latter and hold what is new
pub record NumbersLift : Type 0 where
  pub answers : (problem : Problem) (kinds : List Kind) (clauses : List (List Lit)) (query : Query) (valuation : Valuation)
      → All (NamesBelow (length problem.kinds)) problem.clauses
      → Meets (enlarged problem kinds clauses) (lifted (length problem.kinds) (length kinds) query) valuation
      → Meets problem query (lowered (length problem.kinds) (length kinds) valuation)
  pub down : (problem : Problem) (kinds : List Kind) (clauses : List (List Lit)) (query : Query) (truth : ℕ → Bool) (place : ℕ → ℤ)
      → All (NamesBelow (length problem.kinds)) problem.clauses
      → IsModel (enlarged problem kinds clauses) (lifted (length problem.kinds) (length kinds) query) truth place
      → IsModel problem query (λ variable. truth (raised (length problem.kinds) (length kinds) variable)) place
  pub up : (problem : Problem) (kinds : List Kind) (clauses : List (List Lit)) (query : Query) (truth : ℕ → Bool) (place : ℕ → ℤ)
      → All (NamesBelow (length problem.kinds)) problem.clauses
      → IsModel problem query (λ variable. truth (raised (length problem.kinds) (length kinds) variable)) place
      → HoldsNew (length problem.kinds) kinds clauses truth place
      → IsModel (enlarged problem kinds clauses) (lifted (length problem.kinds) (length kinds) query) truth place

-- up to the limits an answer to the problem with signals and a lifted query, without the variables of signals, is one to the
-- window and the query; and the schedule of the one is that of the other
pub record AnswersAreLowered : Type 0 where
  pub answers : (window : WindowForm) (query : Query) (valuation : Valuation) → length (points_of window) ≤ 2048 → length (clauses_of window) ≤ 500000
      → Meets (extended_of window) (lift window query) valuation → Meets (base_of window) query (lower window valuation)
  pub schedules : (window : WindowForm) (query : Query) (valuation : Valuation) (schedule : List EventId) → Meets (extended_of window) query valuation
      → IsByPlace window (lower window valuation) schedule → IsByPlace window valuation schedule

-- up to the limits the problem of a window with its signals is valid, as is each query to the window, lifted; its edges can be
-- kept at any size; and no symbol has both signs in a clause of signals
pub record ExtendedIsValid : Type 0 where
  pub problem : (window : WindowForm) → length (points_of window) ≤ 2048 → length (clauses_of window) + length (signals_of window) ≤ 500000
      → IsValidProblem (extended_of window)
  pub few_clauses : (window : WindowForm) → length (clauses_of window) + length (signals_of window) ≤ 500000 → length (extended_of window).clauses ≤ 500000
  pub solvable : (window : WindowForm) → IsSolvable (extended_of window).edges
  pub query : (window : WindowForm) (query : Query) → IsValidQuery (base_of window) query → IsValidQuery (extended_of window) (lift window query)
  pub signed : (window : WindowForm) → AreSigned (signals_of window)
