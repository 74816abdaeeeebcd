use Rattle.std.proofs.Common.{◌≡◌, ◌-◌}
use Rattle.gp_difference.specs.Falls.{MaySink, fall_at}
use Rattle.gp_difference.proofs.falls.sink.Given as goal

abbrev pub invariant-loop-spot : goal.invariant-loop-spot
invariant-loop-spot l = record {
  number : l.number ≡ fall_at l.numbers l.order l.spot;
  sink : MaySink l.numbers l.order l.count l.spot;
}

abbrev pub decreases-loop-spot : goal.decreases-loop-spot
decreases-loop-spot l = l.count - l.spot
