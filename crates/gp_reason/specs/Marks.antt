-- Marking the steps that are told, from the last one back.
use Rattle.std.specs.Prelude.{ℕ, ◌≡◌, ◌<◌, ◌≤◌, ◌++◌, Bool, false, List, [], ◌∷◌, filter, get_or}
use Rattle.std.specs.List.{list_any}
use Rattle.gp_reason.specs.Told.{NumberedStep, cites, with_step}

-- whether a number is marked
abbrev pub is_marked : List Bool → ℕ → Bool
is_marked marks number = get_or marks number false

-- the steps whose numbers are marked
abbrev pub marked_among : List Bool → List NumberedStep → List NumberedStep
marked_among marks steps = filter (λ step. is_marked marks step.number) steps

-- each number below a bound is marked where one of these steps cites it
abbrev pub AreCited : List Bool → ℕ → List NumberedStep → Type 0
AreCited marks below told = (number : ℕ) → number < below → is_marked marks number ≡ list_any (cites number) told

-- steps that are told, and before them those of earlier ones that they cite, one after another from the last one back
abbrev pub with_cited : List NumberedStep → List NumberedStep → List NumberedStep
with_cited [] told = told
with_cited (step ∷ steps) told = with_step step (with_cited steps told)

-- after a walk back over some steps, with numbers from one bound up to another, before steps that are told
pub record AreWalked (old new : List Bool) (below above : ℕ) (steps told : List NumberedStep) : Type 0 where
  -- what is told by then cites just the numbers that are marked of those before it
  pub cited : AreCited new below (with_cited steps told)
  -- of the steps those are told that are marked
  pub marked : marked_among new steps ++ told ≡ with_cited steps told
  -- no later mark has changed
  pub later : (number : ℕ) → above ≤ number → is_marked new number ≡ is_marked old number
