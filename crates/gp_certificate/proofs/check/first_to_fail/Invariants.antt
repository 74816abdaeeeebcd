use Rattle.std.proofs.Common.{◌≡◌, ◌++◌, [], take}
use Rattle.gp_certificate.specs.Certificate.{clauses_of}
use Rattle.gp_certificate.specs.Shared.{OwnStepsPass}
use Rattle.gp_certificate.proofs.check.first_to_fail.Given as goal

abbrev pub invariant-loop-place : goal.invariant-loop-place
invariant-loop-place l =
    (l.hinted ≡ l.fn.hinted) × (l.all ≡ record l.fn.hinted { loaded = l.base ++ clauses_of (take l.place l.own) })
    × OwnStepsPass l.fn.hinted.edges l.fn.hinted.kinds l.base (clauses_of l.shared) [] (take l.place l.own)
