-- Laws: certificates that are raised by nothing.
use Rattle.std.proofs.Common.{◌≡◌, refl, ap, ℕ, ◌+◌, Bool, true, false, nat_lt, List, [], ◌∷◌, map, arith}
use Rattle.std.specs.Prelude.{if◌then◌else◌}
use Rattle.gp_certificate.specs.declared.step.Step.{Step}
use Rattle.gp_certificate.specs.declared.certificate.Certificate.{Certificate}
use Rattle.gp_derivation.specs.Numbering.{moved, with_hints}
use Rattle.gp_raise.specs.Raised.{raised}

hint_same : (clauses hint : ℕ) → moved clauses 0 hint ≡ hint
hint_same clauses hint = by (nat_lt hint clauses)
  where
    by : (b : Bool) → (if b then hint else (hint + 0)) ≡ hint
    by true = refl
    by false = omega arith

hints_same : (clauses : ℕ) (hints : List ℕ) → map (moved clauses 0) hints ≡ hints
hints_same clauses [] = refl
hints_same clauses (hint ∷ hints) = rw (hint_same clauses hint, hints_same clauses hints) refl

steps_same : (clauses : ℕ) (steps : List Step) → map (with_hints (moved clauses 0)) steps ≡ steps
steps_same clauses [] = refl
steps_same clauses (step ∷ steps) = rw (hints_same clauses step.hints, steps_same clauses steps) refl

-- where no step is shared a certificate stays as it is
pub raised_by_nothing : (clauses : ℕ) (certificate : Certificate) → raised clauses 0 certificate ≡ certificate
raised_by_nothing clauses certificate = ap (λ (steps : List Step). record { steps = steps }) (steps_same clauses certificate.steps)
