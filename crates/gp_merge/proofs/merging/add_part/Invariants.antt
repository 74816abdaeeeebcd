use Rattle.std.proofs.Common.{◌≡◌, ◌++◌, map}
use Rattle.std.specs.List.{AllByRecursion}
use Rattle.std.specs.Vec.Iter.{into_iter_items}
use Rattle.gp_merge.specs.Merge.{renumbered}
use Rattle.gp_merge.specs.Moving.{CanMove}
use Rattle.gp_merge.proofs.merging.add_part.Given as goal

abbrev pub invariant-loop-told : goal.invariant-loop-told
invariant-loop-told l = record {
  made : l.made ≡ l.fn.made ++ map (renumbered l.part.before) l.yielded;
  room : AllByRecursion (CanMove l.part.before) (into_iter_items l.told-iterator);
}
