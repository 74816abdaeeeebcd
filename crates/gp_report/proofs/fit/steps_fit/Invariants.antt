use Rattle.std.proofs.Common.{drop, All}
use Rattle.gp_report.specs.Telling.{HasClause}
use Rattle.gp_report.specs.Typed.{IsTypedStep}
use Rattle.gp_report.proofs.fit.steps_fit.Given as goal

abbrev pub invariant-loop-step : goal.invariant-loop-step
invariant-loop-step l =
    (All IsTypedStep (drop l.step-index l.steps) → All IsTypedStep l.steps)
    × (All HasClause (drop l.step-index l.steps) → All HasClause l.steps)
