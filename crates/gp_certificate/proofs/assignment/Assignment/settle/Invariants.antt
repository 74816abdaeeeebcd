use Rattle.std.proofs.Common.{◌-◌, length, take}
use Rattle.gp_certificate.specs.Counting.{GoesOn, AreDone}
use Rattle.gp_certificate.proofs.assignment.Assignment.settle.Given as goal

abbrev pub invariant-loop-self : goal.invariant-loop-self
invariant-loop-self l = GoesOn l.fn.self l.self l.fn.loaded l.loaded × AreDone (take l.self.cursor l.self.trail.items) l.self.values.items l.fn.loaded.clauses

abbrev pub decreases-loop-self : goal.decreases-loop-self
decreases-loop-self l = length l.self.values.items - l.self.cursor
