use Rattle.std.proofs.Common.{◌≡◌, drop}
use Rattle.gp_notified.specs.Printed.{wake_of}
use Rattle.gp_notified.proofs.printing.wake_of.Given as goal

abbrev pub invariant-loop-one : goal.invariant-loop-one
invariant-loop-one l = wake_of l.number (drop l.one-index l.unpaired) ≡ wake_of l.number l.unpaired
