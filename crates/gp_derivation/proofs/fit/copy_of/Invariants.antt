use Rattle.std.proofs.Common.{◌≡◌, take}
use Rattle.gp_derivation.proofs.fit.copy_of.Given as goal

abbrev pub invariant-loop-step : goal.invariant-loop-step
invariant-loop-step l = l.copy ≡ take l.step-index l.steps
