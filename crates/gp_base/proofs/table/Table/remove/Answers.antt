-- After a removal nothing is found at the key, so a filter by the key takes away the same entries.
use Rattle.std.proofs.Common.{◌∙◌}
use Rattle.std.specs.BTreeMap.{is_at}
use Rattle.std.proofs.lemmas.Map.{none_passes_from_lookup}
use Rattle.gp_base.proofs.Removals.{removed_is_filtered}
use Rattle.gp_base.proofs.table.Table.remove.Goals as goal

pub returns : goal.returns
returns g c =
    let test = is_at (g.K.Ord.cmp c.args.key.now) in
    let none = none_passes_from_lookup test c.remove.new.self.entries c.remove.ensures.updates.1 in
    let left = rw c.remove.ensures.entries at none in
    rw (← c.self.view_is) (c.remove.ensures.entries ∙ removed_is_filtered test c.self.inside.map.entries left)
