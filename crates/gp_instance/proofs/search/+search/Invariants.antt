use Rattle.std.proofs.Common.{◌≡◌, ◌≤◌, drop, length, map}
use Rattle.std.specs.List.{flat_map}
use Rattle.gp_instance.specs.Search.{first_instances, instance_after, search}
use Rattle.gp_instance.proofs.Choices.{completed}
use Rattle.gp_instance.proofs.search.+search.Given as goal

abbrev pub decreases-search : goal.decreases-search
decreases-search l = length l.atoms.now

abbrev pub invariant-loop-id : goal.invariant-loop-id
invariant-loop-id l = record {
  ends : l.dead_ends ≡ l.initial.dead_ends;
  room : length l.found ≤ 10001;
  walk : first_instances l.found (map (instance_after l.number l.front) (flat_map (completed l.initial.dead_ends.0 l.atom l.later l.others) (drop l.id-index l.ids)))
      ≡ first_instances l.initial.found (map (instance_after l.number l.front) (search l.initial.dead_ends.0 l.atoms l.domains));
}
