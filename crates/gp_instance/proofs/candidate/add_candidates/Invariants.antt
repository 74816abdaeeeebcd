use Rattle.std.proofs.Common.{◌≡◌, ◌++◌, drop}
use Rattle.std.specs.Prelude.{filter}
use Rattle.gp_instance.specs.Instances.{ids_in}
use Rattle.gp_instance.specs.Search.{is_candidate}
use Rattle.gp_instance.proofs.candidate.add_candidates.Given as goal

abbrev pub invariant-loop-index : goal.invariant-loop-index
invariant-loop-index l =
    l.ids ++ filter (is_candidate l.segments l.atom) (ids_in l.thread l.index (drop l.index l.segment)) ≡ l.initial.ids ++ filter (is_candidate l.segments l.atom) (ids_in l.thread 0 l.segment)
