use Rattle.std.proofs.Common.{◌≡◌, length, take}
use Rattle.gp_certificate.specs.Assignment.{IsKept}
use Rattle.gp_certificate.proofs.assignment.Assignment.cut_to.Given as goal

abbrev pub invariant-loop-self : goal.invariant-loop-self
invariant-loop-self l =
    IsKept l.self × (take l.count l.self.trail.items ≡ take l.count l.fn.self.trail.items) × (length l.self.values.items ≡ length l.fn.self.values.items) × (l.self.cursor ≡ l.fn.self.cursor)

abbrev pub decreases-loop-self : goal.decreases-loop-self
decreases-loop-self l = length l.self.trail.items
