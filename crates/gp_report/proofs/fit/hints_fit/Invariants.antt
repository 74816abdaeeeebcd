use Rattle.std.proofs.Common.{◌<◌, ◌^◌, drop, All}
use Rattle.gp_report.proofs.fit.hints_fit.Given as goal

abbrev pub invariant-loop-hint : goal.invariant-loop-hint
invariant-loop-hint l = All (λ hint. hint < 2 ^ 32) (drop l.hint-index l.hints) → All (λ hint. hint < 2 ^ 32) l.hints
