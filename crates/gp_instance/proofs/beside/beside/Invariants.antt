use Rattle.std.proofs.Common.{◌≡◌, ◌++◌, drop}
use Rattle.std.specs.Prelude.{filter}
use Rattle.gp_instance.specs.Search.{may_stand}
use Rattle.gp_instance.proofs.beside.beside.Given as goal

abbrev pub invariant-loop-id : goal.invariant-loop-id
invariant-loop-id l = l.kept ++ filter (may_stand l.segments l.chosen l.atom) (drop l.id-index l.ids) ≡ filter (may_stand l.segments l.chosen l.atom) l.ids
