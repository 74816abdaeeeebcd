use Rattle.std.proofs.Common.{◌≡◌, ◌++◌, ◌+◌, drop}
use Rattle.std.specs.Prelude.{filter}
use Rattle.gp_instance.specs.Instances.{ids_from}
use Rattle.gp_instance.specs.Search.{is_candidate}
use Rattle.gp_instance.proofs.candidate.candidates_of.Given as goal

abbrev pub invariant-loop-place : goal.invariant-loop-place
invariant-loop-place l =
    l.ids ++ filter (is_candidate l.segments l.atom) (ids_from (l.place + 1) (drop l.place l.threads)) ≡ filter (is_candidate l.segments l.atom) (ids_from 1 l.threads)
