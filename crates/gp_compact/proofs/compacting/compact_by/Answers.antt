use Rattle.std.proofs.Common.{◌+◌, ◌^◌, ◌<◌, List, subst, sym}
use Rattle.gp_certificate.specs.declared.step.Step.{Step}
use Rattle.gp_sharing.specs.Compacted.{entries_in_body, steps_in}
use Rattle.gp_sharing.specs.FoundLaws.{is_less}
use Rattle.gp_sharing.specs.GrownLaws.{list_has_room}
use Rattle.gp_sharing.specs.Moving.{RoomFor, first_own}
use Rattle.gp_compact.proofs.compacting.compact_by.Goals as goal

pub rewrite_body-requires : goal.rewrite_body-requires
rewrite_body-requires c =
    let entries = entries_in_body c.args.told.body in
    let few : first_own c.args.sizes + steps_in (entries_in_body c.args.told.body) < 2 ^ 31 = is_less (first_own c.args.sizes + steps_in entries) (2 ^ 31) c.requires.few in
    subst (λ (list : List Step). RoomFor c.args.sizes list (steps_in (entries_in_body c.args.told.body))) (sym c.in_ok-list.ensures) (list_has_room c.args.sizes c.args.told.shared entries c.requires.shared few)
