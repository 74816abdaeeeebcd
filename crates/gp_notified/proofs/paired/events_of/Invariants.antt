use Rattle.std.proofs.Common.{◌≡◌, ◌++◌, drop}
use Rattle.gp_notified.specs.Shown.{events_of}
use Rattle.gp_notified.proofs.paired.events_of.Given as goal

abbrev pub invariant-loop-pair : goal.invariant-loop-pair
invariant-loop-pair l = l.events.items ++ events_of (drop l.pair-index l.pairs) ≡ events_of l.pairs
