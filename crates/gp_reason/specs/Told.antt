-- Which steps a reason tells: the last one of the certificate, and those on which it rests.
use Rattle.std.specs.Prelude.{ℕ, suc, ◌+◌, ◌==◌, Bool, List, [], ◌∷◌, ◌++◌, if◌then◌else◌, length, nat_le}
use Rattle.std.specs.List.{list_any}
use Rattle.gp_certificate.specs.declared.step.Step.{Step}

-- a step with its number, and with that of the first step of its list
pub record NumberedStep : Type 0 where
  pub first : ℕ
  pub number : ℕ
  pub step : Step

-- the steps of a list from this number on
abbrev pub numbered_from : ℕ → ℕ → List Step → List NumberedStep
numbered_from first number [] = []
numbered_from first number (step ∷ steps) = record { first = first; number = number; step = step } ∷ numbered_from first (suc number) steps

-- the steps of a list
abbrev pub numbered : ℕ → List Step → List NumberedStep
numbered first steps = numbered_from first first steps

-- so many base clauses have the first numbers; then come the shared steps, and then a certificate's own
abbrev pub all_steps : ℕ → List Step → List Step → List NumberedStep
all_steps base shared own = numbered base shared ++ numbered (base + length shared) own

-- whether hints cite the earlier step of this number; where there are none, each earlier step of the list is cited
abbrev pub hints_cite : ℕ → ℕ → List ℕ → Bool
hints_cite first number [] = nat_le first number
hints_cite first number (hint ∷ hints) = list_any (λ other. other == number) (hint ∷ hints)

-- whether a step cites the earlier one of this number
abbrev pub cites : ℕ → NumberedStep → Bool
cites number later = hints_cite later.first number later.step.hints

-- steps that are told, and before them one more, where one of them cites it
abbrev pub with_step : NumberedStep → List NumberedStep → List NumberedStep
with_step step told = if list_any (cites step.number) told then step ∷ told else told

-- the last of some steps, and before it each one that is cited by one of those told behind it
abbrev pub told_among : List NumberedStep → List NumberedStep
told_among [] = []
told_among (last ∷ []) = last ∷ []
told_among (step ∷ next ∷ steps) = with_step step (told_among (next ∷ steps))

-- what is told of a certificate: nothing where it has no steps
abbrev pub told_of : ℕ → List Step → List Step → List NumberedStep
told_of base shared [] = []
told_of base shared (step ∷ steps) = told_among (all_steps base shared (step ∷ steps))
