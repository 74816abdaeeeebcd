use Rattle.std.proofs.Common.{take}
use Rattle.gp_stuck.specs.Closing.{HaveClosers}
use Rattle.gp_stuck.proofs.closing.closers_of.Given as goal

abbrev pub invariant-loop-link : goal.invariant-loop-link
invariant-loop-link l = HaveClosers l.first l.held (take l.link-index l.links) l.closers
