use Rattle.std.proofs.Common.{take}
use Rattle.gp_stuck.specs.Closing.{HaveSteps}
use Rattle.gp_stuck.proofs.closing.steps_of.Given as goal

abbrev pub invariant-loop-link : goal.invariant-loop-link
invariant-loop-link l = HaveSteps l.first l.closers (take l.link-index l.links) l.steps
