use Rattle.std.proofs.Common.{◌≡◌, ◌+◌, length}
use Rattle.std.specs.Vec.Iter.{into_iter_items}
use Rattle.gp_window.specs.Parsed.{gathered}
use Rattle.gp_base.specs.Results.{with_prefix}
use Rattle.gp_window.proofs.reading.gathered.Given as goal

abbrev pub invariant-loop-one : goal.invariant-loop-one
invariant-loop-one l =
    (goal.iterator-loop-one).can_next l.one-iterator
    × (goal.iterator-loop-one).is_finite l.one-iterator
    × (with_prefix l.traces (gathered l.thread (into_iter_items l.one-iterator)) ≡ gathered 1 l.fn.read.items)
    × (l.thread + length (into_iter_items l.one-iterator) ≡ 1 + length l.fn.read.items)
