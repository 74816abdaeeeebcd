use Rattle.std.proofs.Common.{◌≡◌, ◌++◌, drop}
use Rattle.std.specs.Prelude.{filter}
use Rattle.gp_instance.specs.Partners.{may_pair}
use Rattle.gp_instance.proofs.partners.pairable.Given as goal

abbrev pub invariant-loop-id : goal.invariant-loop-id
invariant-loop-id l = l.kept ++ filter (may_pair l.segments l.link l.side l.partners) (drop l.id-index l.ids) ≡ filter (may_pair l.segments l.link l.side l.partners) l.ids
