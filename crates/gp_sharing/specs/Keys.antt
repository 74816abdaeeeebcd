-- What the table of first places says of a shared list.
use Rattle.std.specs.Prelude.{ℕ, ◌≡◌, ◌&&◌, Bool, List, nat_eq, position}
use Rattle.std.specs.Cmp.Lexicographic.{pointwise}
use Rattle.std.specs.Map.{lookup}
use Rattle.gp_clause.specs.Lit.{lit_eq}
use Rattle.gp_certificate.specs.declared.step.Step.{Step}
use Rattle.gp_sharing.specs.declared.shared_list.StepKey.{StepKey}
use Rattle.gp_sharing.specs.Moving.{step_eq}

-- a key says what a step says
pub record IsKeyOf (step : Step) (key : StepKey) : Type 0 where
  pub lits : key.lits.items ≡ step.clause
  pub hints : key.hints.items ≡ step.hints

-- whether a key says what a step says
abbrev pub is_key_of : Step → StepKey → Bool
is_key_of step key = pointwise lit_eq step.clause key.lits.items && pointwise nat_eq step.hints key.hints.items

-- a table has the first place of each step in a list, and of no other; it knows a step by its key
abbrev pub HasFirsts : List (StepKey × ℕ) → List Step → Type 0
HasFirsts firsts steps = (step : Step) (key : StepKey) → IsKeyOf step key → lookup (is_key_of step) firsts ≡ position (step_eq step) steps
