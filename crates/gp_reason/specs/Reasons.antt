-- The reason that a certificate gives, in the facts of its window.
use Rattle.std.specs.Prelude.{ℕ, ◌==◌, Bool, true, false, List, [], ◌∷◌, ◌++◌, Option, Some, None, flat_map, get_or, length, position}
use Rattle.gp_certificate.specs.declared.certificate.Certificate.{Certificate}
use Rattle.gp_certificate.specs.declared.step.Step.{Step}
use Rattle.gp_clause.specs.declared.lit.Lit.{Lit}
use Rattle.gp_clause.specs.Lit.{negations}
use Rattle.gp_constraint.specs.declared.base_family.BaseFamily.{BaseFamily}
use Rattle.gp_constraint.specs.declared.symbol.Symbol.{Symbol}
use Rattle.gp_constraint.specs.Base.{base_of}
use Rattle.gp_constraint.specs.Query.{query_names}
use Rattle.gp_property.specs.PropertyForm.{PropertyForm}
use Rattle.gp_window.specs.declared.schedule.EventId.{EventId}
use Rattle.gp_window.specs.WindowForm.{WindowForm}
use Rattle.gp_reason.specs.declared.fact.Fact.{Fact}
use Rattle.gp_reason.specs.declared.reasons.Ground.{Ground}
use Rattle.gp_reason.specs.declared.reasons.Ground.TheVariants.{Base, Earlier, Everything, ThreadOrder}
use Rattle.gp_reason.specs.declared.reasons.Reason.{Reason}
use Rattle.gp_reason.specs.declared.reasons.ReasonStep.{ReasonStep}
use Rattle.gp_reason.specs.Cycles.{cycle_told, forces_nothing, numbered_clauses}
use Rattle.gp_reason.specs.Facts.{facts_of}
use Rattle.gp_reason.specs.Families.{family_at}
use Rattle.gp_reason.specs.Told.{NumberedStep, told_of}

-- the place of the step of this number among those that are told
abbrev pub place_of : List NumberedStep → ℕ → Option ℕ
place_of told number = position (λ step. step.number == number) told

-- the clause of a window with this number
abbrev pub clause_at : WindowForm → ℕ → List Lit
clause_at window number = get_or (base_of window).clauses number []

-- a step as a ground, where it is told
abbrev pub step_ground : Option ℕ → List Ground
step_ground (Some place) = Earlier place ∷ []
step_ground None = []

-- what a hint names: a clause of a family, or a step that is told before at some place
abbrev pub named_ground : WindowForm → List Symbol → (ℕ → Option ℕ) → ℕ → Option BaseFamily → List Ground
named_ground window names place hint (Some family) = Base family (facts_of window names (clause_at window hint)) ∷ []
named_ground window names place hint None = step_ground (place hint)

abbrev pub ground_of : WindowForm → List Symbol → (ℕ → Option ℕ) → ℕ → List Ground
ground_of window names place hint = named_ground window names place hint (family_at window hint)

-- what a step with these hints rests on: the order within threads alone where the clauses that they number force nothing
abbrev pub grounds_of : WindowForm → List Symbol → (ℕ → Option ℕ) → Bool → List ℕ → List Ground
grounds_of window names place nothing [] = Everything ∷ []
grounds_of window names place true (hint ∷ hints) = ThreadOrder ∷ []
grounds_of window names place false (hint ∷ hints) = flat_map (ground_of window names place) (hint ∷ hints)

-- a step that is told, where the steps told before have these places
abbrev pub step_of : WindowForm → List Symbol → List (List Lit) → (ℕ → Option ℕ) → ℕ → Step → ReasonStep
step_of window names clauses place number step = record {
  number = number;
  says = facts_of window names step.clause;
  grounds = grounds_of window names place (forces_nothing clauses number step) step.hints;
  cycle = cycle_told window names clauses number step;
}

-- steps that are told, behind those told before
abbrev pub steps_from : WindowForm → List Symbol → List (List Lit) → List NumberedStep → List NumberedStep → List ReasonStep
steps_from window names clauses before [] = []
steps_from window names clauses before (told ∷ rest) =
    step_of window names clauses (place_of before) told.number told.step ∷ steps_from window names clauses (before ++ told ∷ []) rest

-- what the clause of the last of some steps denies
abbrev pub assumed_of : WindowForm → List Symbol → List Step → List Fact
assumed_of window names [] = []
assumed_of window names (last ∷ []) = facts_of window names (negations last.clause)
assumed_of window names (step ∷ next ∷ steps) = assumed_of window names (next ∷ steps)

-- the reason that a certificate over shared steps gives, where variables have these names and hints number these clauses
abbrev pub reason_by : WindowForm → List Symbol → List (List Lit) → List Step → List Step → Reason
reason_by window names clauses shared own = record {
  assumed = assumed_of window names own;
  steps = steps_from window names clauses [] (told_of (length (base_of window).clauses) shared own);
}

-- the reason why an instance of these events is impossible in a window
abbrev pub reason_of : WindowForm → PropertyForm → List EventId → List Step → Certificate → Reason
reason_of window property ids shared certificate =
    reason_by window (query_names window property ids) (numbered_clauses window shared certificate.steps) shared certificate.steps
