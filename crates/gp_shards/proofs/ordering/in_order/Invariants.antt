use Rattle.std.proofs.Common.{◌≡◌, ◌+◌, ◌-◌}
use Rattle.gp_base.specs.Results.{with_prefix}
use Rattle.gp_shards.specs.Merging.{in_order}
use Rattle.gp_shards.proofs.ordering.in_order.Given as goal

abbrev pub invariant-loop-before : goal.invariant-loop-before
invariant-loop-before l = with_prefix l.ordered (in_order l.folders (l.before + 1) (l.parts - l.before)) ≡ in_order l.folders 1 l.parts
