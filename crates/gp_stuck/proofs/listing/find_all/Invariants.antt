use Rattle.std.proofs.Common.{◌≡◌, ◌≤◌, [], drop, length, map}
use Rattle.std.specs.List.{flat_map}
use Rattle.gp_instance.specs.Instances.{numbered}
use Rattle.gp_instance.specs.Search.{first_instances}
use Rattle.gp_stuck.specs.Links.{IsHolding}
use Rattle.gp_stuck.specs.Search.{cycles_from, found_cycles, takers_of}
use Rattle.gp_stuck.proofs.listing.find_all.Given as goal

abbrev pub invariant-loop-id : goal.invariant-loop-id
invariant-loop-id l = record {
  holding : IsHolding l.waiting l.first.holding;
  narrows : l.first.narrows ≡ l.initial.first.narrows;
  room : length l.found ≤ 10001;
  walk : first_instances l.found (map (numbered 0) (flat_map (cycles_from l.waiting (takers_of l.waiting)) (drop l.id-index l.id-items)))
      ≡ first_instances [] (map (numbered 0) (found_cycles l.waiting));
}
