use Rattle.std.proofs.Common.{◌≡◌, ◌+◌, drop}
use Rattle.gp_constraint.proofs.Counted.{size_all}
use Rattle.gp_constraint.proofs.window_base.count_events.Given as goal

abbrev pub invariant-loop-segment : goal.invariant-loop-segment
invariant-loop-segment l = l.events + size_all (drop l.segment-index l.segment-items) ≡ size_all l.segment-items
