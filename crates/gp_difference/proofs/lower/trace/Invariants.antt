use Rattle.std.proofs.Common.{◌≡◌, ◌-◌, length}
use Rattle.gp_difference.specs.Lower.{Tracing}
use Rattle.gp_difference.proofs.lower.trace.Given as goal

abbrev pub invariant-tracing : goal.invariant-tracing
invariant-tracing l = record {
  same : l.run ≡ record l.fn.run { walk = l.run.walk };
  size : length l.run.walk ≡ length l.fn.run.walk;
  tracing : Tracing l.bounds.bounds l.fn.new l.run l.count l.point;
}

abbrev pub decreases-tracing : goal.decreases-tracing
decreases-tracing l = length l.run.walk - l.count
