use Rattle.std.proofs.Common.{◌≡◌, ◌≤◌}
use Rattle.gp_certificate.specs.Assignment.{IsKept}
use Rattle.gp_certificate.specs.Counting.{IsExact}
use Rattle.gp_certificate.proofs.assignment.Assignment.raise_to.Given as goal

abbrev pub invariant-loop-self : goal.invariant-loop-self
invariant-loop-self l =
    IsKept l.self × (l.self ≡ record l.fn.self { cursor = l.self.cursor }) × (l.cursor ≤ l.self.cursor) × (l.loaded ≡ record l.fn.loaded { left = l.loaded.left }) × IsExact l.self l.loaded

abbrev pub decreases-loop-self : goal.decreases-loop-self
decreases-loop-self l = l.self.cursor
