-- Telling steps one after another, with the places of those that were told.
use Rattle.std.specs.Prelude.{ℕ, Bool, true, false, List, [], ◌∷◌, ◌++◌, Option, Some, None, get_or, length, replicate}
use Rattle.gp_certificate.specs.declared.step.Step.{Step}
use Rattle.gp_clause.specs.declared.lit.Lit.{Lit}
use Rattle.gp_constraint.specs.declared.symbol.Symbol.{Symbol}
use Rattle.gp_window.specs.WindowForm.{WindowForm}
use Rattle.gp_reason.specs.declared.steps.Draft.{Draft}
use Rattle.gp_reason.specs.Marks.{is_marked}
use Rattle.gp_reason.specs.Reasons.{step_of}

-- the place of the step of this number, where it was told
abbrev pub place_at : List (Option ℕ) → ℕ → Option ℕ
place_at places number = get_or places number None

-- nothing is told yet, behind so many clauses
abbrev pub first_draft : ℕ → Draft
first_draft base = record { steps = []; places = replicate base None }

-- after one step more, which is told where it is marked
abbrev pub after_step : WindowForm → List Symbol → List (List Lit) → Bool → Draft → Step → Draft
after_step window names clauses true draft step = record {
  steps = draft.steps ++ step_of window names clauses (place_at draft.places) (length draft.places) step ∷ [];
  places = draft.places ++ Some (length draft.steps) ∷ [];
}
after_step window names clauses false draft step = record { steps = draft.steps; places = draft.places ++ None ∷ [] }

-- after steps
abbrev pub after_steps : WindowForm → List Symbol → List (List Lit) → List Bool → Draft → List Step → Draft
after_steps window names clauses marks draft [] = draft
after_steps window names clauses marks draft (step ∷ steps) =
    after_steps window names clauses marks (after_step window names clauses (is_marked marks (length draft.places)) draft step) steps
