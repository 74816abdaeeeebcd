use Rattle.std.proofs.Common.{◌≡◌}
use Rattle.std.specs.Prelude.{flat_map}
use Rattle.std.specs.List.{AllByRecursion}
use Rattle.std.specs.Vec.Iter.{into_iter_items}
use Rattle.gp_merge.specs.Merge.{part_windows}
use Rattle.gp_merge.specs.Moving.{CanMoveAll}
use Rattle.gp_merge.proofs.merging.merge_windows.Given as goal

abbrev pub invariant-loop-one : goal.invariant-loop-one
invariant-loop-one l = record {
  made : l.made ≡ flat_map part_windows l.yielded;
  room : AllByRecursion CanMoveAll (into_iter_items l.one-iterator);
}
