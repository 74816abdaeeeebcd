use Rattle.std.proofs.Common.{◌≡◌, ℕ, ◌+◌, ◌<◌, Some, All}
use Rattle.std.specs.List.{slice_get}
use Rattle.gp_certificate.specs.declared.step.Step.{Step}
use Rattle.gp_derivation.proofs.numbering.each_after.Given as goal

abbrev pub invariant-loop-place : goal.invariant-loop-place
invariant-loop-place l = (k : ℕ) (own : Step) → k < l.place → slice_get l.steps k ≡ Some own → All (λ hint. hint < l.base_clauses + k) own.hints
