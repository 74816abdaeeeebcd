-- What is true of the reasons of instances that are posed: they assume something, what they tell is true of each schedule, and cycles are told.
use Rattle.std.specs.Prelude.{ℕ, ◌≡◌, ◌↔◌, ◌⊎◌, ◌<◌, ◌≤◌, true, false, Contains, List, [], ◌∷◌, Some, length, map, slice_get}
use Rattle.gp_certificate.specs.declared.certificate.Certificate.{Certificate}
use Rattle.gp_certificate.specs.declared.step.Step.{Step}
use Rattle.gp_certificate.specs.Shared.{ChecksOver, RefutesOver}
use Rattle.gp_clause.specs.declared.lit.Lit.{Lit}
use Rattle.gp_clause.specs.Closure.{Conflicts, Derived}
use Rattle.gp_clause.specs.Lit.{negations}
use Rattle.gp_clause.specs.Problem.{IsValidProblem}
use Rattle.gp_constraint.specs.declared.base_family.BaseFamily.{BaseFamily}
use Rattle.gp_constraint.specs.declared.symbol.Symbol.{Symbol}
use Rattle.gp_constraint.specs.Base.{base_of}
use Rattle.gp_constraint.specs.Encoded.{IsEncodable}
use Rattle.gp_constraint.specs.PointIds.{id_at}
use Rattle.gp_constraint.specs.Points.{points_of}
use Rattle.gp_constraint.specs.Query.{query_names, query_of}
use Rattle.gp_constraint.specs.SymbolTruth.{SymbolTruth}
use Rattle.gp_cycle.specs.Laws.{GoRound}
use Rattle.gp_instance.specs.Instance.{is_instance}
use Rattle.gp_property.specs.PropertyForm.{PropertyForm}
use Rattle.gp_reason.specs.declared.fact.Fact.{Fact}
use Rattle.gp_reason.specs.declared.fact.Fact.TheVariants.{Beyond, Within}
use Rattle.gp_reason.specs.declared.reasons.Ground.TheVariants.{Base, Earlier, Everything, ThreadOrder}
use Rattle.gp_reason.specs.declared.reasons.ReasonStep.{ReasonStep}
use Rattle.gp_reason.specs.Cycles.{cycle_told, forces_nothing, hinted, numbered_clauses}
use Rattle.gp_reason.specs.Facts.{fact_of, facts_of}
use Rattle.gp_reason.specs.Laws.{IsForcedBefore}
use Rattle.gp_reason.specs.Reasons.{reason_of}
use Rattle.gp_reason.specs.Told.{NumberedStep, told_of}
use Rattle.gp_replay.specs.Feasible.{IsFeasible}
use Rattle.gp_window.specs.declared.schedule.EventId.{EventId}
use Rattle.gp_window.specs.WindowForm.{IsWindow, WindowForm}
use Rattle.gp_reasoned.specs.Models.{IsModel, IsOfSchedule, SomeHolds}

-- an instance of up to 6 events in a window of a recording that is within the limits on constraints
pub record IsPosed (window : WindowForm) (property : PropertyForm) (ids : List EventId) : Type 0 where
  pub recorded : IsWindow window
  pub encodable : IsEncodable window
  pub few : length ids ≤ 6
  pub instance : is_instance window property ids ≡ true

-- where a certificate refutes the query of an instance, its reason assumes something: the constraints of a window alone are never
-- contradictory, since a schedule in which nothing happens is feasible
abbrev pub SomethingIsAssumed : Type 0
SomethingIsAssumed = (window : WindowForm) (property : PropertyForm) (ids : List EventId) (shared : List Step) (certificate : Certificate)
    → IsPosed window property ids → RefutesOver (base_of window) shared (query_of window property ids) certificate
    → (fact : Fact) × Contains (reason_of window property ids shared certificate).assumed fact

-- one of the clauses that the hints of a step of this number number becomes false, by what they derive from the negation of its clause
abbrev pub EndsInConflict : List (List Lit) → ℕ → Step → Type 0
EndsInConflict clauses number step = Conflicts (negations step.clause) (hinted clauses number step.hints)

-- a fact says how far apart two events are
abbrev pub IsDistance : Fact → Type 0
IsDistance (Within one other width) = Unit {0}
IsDistance (Beyond one other width) = Unit {0}
IsDistance _ = ⊥

-- these clauses derive a literal from there that says how far apart two events are
abbrev pub DerivesDistance : WindowForm → List Symbol → List (List Lit) → ℕ → Step → Type 0
DerivesDistance window names clauses number step =
    (lit : Lit) × Derived (negations step.clause) (hinted clauses number step.hints) lit × IsDistance (fact_of names (id_at (points_of window)) lit)

-- when a cycle is told of a step
pub record CyclesAreTold : Type 0 where
  -- none is told exactly where a clause becomes false, or no events are forced before one another all round
  pub none : (window : WindowForm) (names : List Symbol) (clauses : List (List Lit)) (number : ℕ) (step : Step)
      → (cycle_told window names clauses number step ≡ [])
      ↔ (EndsInConflict clauses number step ⊎ ((events : List EventId) → GoRound (IsForcedBefore window names clauses number step) events → ⊥))
  -- of a step with hints that is told of a certificate that checks, one is told unless a clause becomes false or a distance is derived
  pub passing : (window : WindowForm) (property : PropertyForm) (ids : List EventId) (shared : List Step) (certificate : Certificate) → IsValidProblem (base_of window)
      → ChecksOver (base_of window) shared (query_of window property ids) certificate → (told : NumberedStep) (hint : ℕ)
      → Contains (told_of (length (base_of window).clauses) shared certificate.steps) told → Contains told.step.hints hint
      → cycle_told window (query_names window property ids) (numbered_clauses window shared certificate.steps) told.number told.step ≡ []
      → EndsInConflict (numbered_clauses window shared certificate.steps) told.number told.step
      ⊎ DerivesDistance window (query_names window property ids) (numbered_clauses window shared certificate.steps) told.number told.step

-- what is told of a certificate that checks is true by each model of the window
pub record StepsAreTrue : Type 0 where
  -- of what a step says some fact holds
  pub says : (window : WindowForm) (property : PropertyForm) (ids : List EventId) (shared : List Step) (certificate : Certificate) → IsPosed window property ids
      → ChecksOver (base_of window) shared (query_of window property ids) certificate → (t : SymbolTruth) → IsModel window t
      → (step : ReasonStep) → Contains (reason_of window property ids shared certificate).steps step → SomeHolds window t step.says
  -- and of each clause of the window that is told as a ground
  pub grounds : (window : WindowForm) (property : PropertyForm) (ids : List EventId) (shared : List Step) (certificate : Certificate) → IsPosed window property ids
      → (t : SymbolTruth) → IsModel window t → (step : ReasonStep) → Contains (reason_of window property ids shared certificate).steps step
      → (family : BaseFamily) (facts : List Fact) → Contains step.grounds (Base family facts) → SomeHolds window t facts
  -- each feasible schedule of the window is what some model of it says
  pub schedules : (window : WindowForm) (schedule : List EventId) → IsWindow window → IsEncodable window → IsFeasible window schedule
      → (t : SymbolTruth) × IsModel window t × IsOfSchedule window schedule t

-- a step of a reason is one of the numbered ones that are told, with the grounds that its hints call for
pub record IsGrounded (window : WindowForm) (names : List Symbol) (clauses : List (List Lit)) (all : List NumberedStep) (told : NumberedStep) (step : ReasonStep) : Type 0 where
  pub among : Contains all told
  pub number : step.number ≡ told.number
  -- everything that it may use, where it has no hints
  pub everything : told.step.hints ≡ [] → step.grounds ≡ Everything ∷ []
  -- the order within threads alone, where the clauses that its hints number force nothing
  pub alone : (hint : ℕ) → Contains told.step.hints hint → forces_nothing clauses told.number told.step ≡ true → step.grounds ≡ ThreadOrder ∷ []
  -- and else each clause of the window that a hint numbers, by its facts
  pub cited : (hint : ℕ) (clause : List Lit) → Contains told.step.hints hint → forces_nothing clauses told.number told.step ≡ false → slice_get (base_of window).clauses hint ≡ Some clause
      → (family : BaseFamily) × Contains step.grounds (Base family (facts_of window names clause))
  -- and each earlier step that one numbers, by its place among those that are told
  pub earlier : (prior : NumberedStep) → Contains all prior → prior.number < told.number → Contains told.step.hints prior.number → forces_nothing clauses told.number told.step ≡ false
      → (place : ℕ) × Contains step.grounds (Earlier place) × (slice_get (map (λ one. one.number) all) place ≡ Some prior.number)

-- what each step of a reason rests on is told
abbrev pub GroundsAreTold : Type 0
GroundsAreTold = (window : WindowForm) (property : PropertyForm) (ids : List EventId) (shared : List Step) (certificate : Certificate) (step : ReasonStep)
    → Contains (reason_of window property ids shared certificate).steps step
    → (told : NumberedStep)
    × IsGrounded window (query_names window property ids) (numbered_clauses window shared certificate.steps) (told_of (length (base_of window).clauses) shared certificate.steps) told step
