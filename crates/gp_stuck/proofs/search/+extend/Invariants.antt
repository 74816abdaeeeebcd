use Rattle.std.proofs.Common.{◌≡◌, ◌≤◌, ◌∷◌, drop, length, map}
use Rattle.std.specs.List.{flat_map}
use Rattle.gp_instance.specs.Search.{first_instances, instance_after}
use Rattle.gp_stuck.specs.Search.{completions, going_on, takers_of}
use Rattle.gp_stuck.proofs.search.+extend.Given as goal

abbrev pub decreases-extend : goal.decreases-extend
decreases-extend l = l.left

abbrev pub invariant-loop-id : goal.invariant-loop-id
invariant-loop-id l = record {
  room : length l.found ≤ 10001;
  walk : first_instances l.found (map (instance_after 0 (l.first.holding.id ∷ l.passed)) (flat_map (going_on l.waiting l.first.holding.id l.passed l.fewer) (drop l.id-index l.id-items)))
      ≡ first_instances l.fn.found (map (instance_after 0 (l.first.holding.id ∷ l.passed)) (completions l.waiting (takers_of l.waiting) l.first.holding.id l.passed l.fn.last l.left));
}
