use Rattle.std.proofs.Common.{length}
use Rattle.gp_certificate.proofs.Rowing.{IsUnloading}
use Rattle.gp_certificate.proofs.loaded.Loaded.truncate.Given as goal

abbrev pub invariant-loop-self : goal.invariant-loop-self
invariant-loop-self l = IsUnloading l.fn.self l.self l.count

abbrev pub decreases-loop-self : goal.decreases-loop-self
decreases-loop-self l = length l.self.clauses
