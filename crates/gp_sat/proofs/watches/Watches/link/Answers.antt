use Rattle.std.proofs.Common.{refl, ◌∙◌, ap, ◌<◌, length, arith}
use Rattle.std.proofs.lemmas.List.{get_or_read}
use Rattle.gp_sat.specs.Linked.{at_front}
use Rattle.gp_sat.specs.WatchesForm.{WatchesForm}
use Rattle.gp_sat.proofs.Packing.{packed_front}
use Rattle.gp_sat.proofs.watches.Watches.link.Goals as goal

pub returns : goal.returns
returns c =
    let within : c.code_of-place.result < length c.self.inside.heads.items = omega (arith, c.requires.named, c.code_of-place.ensures, ap (λ (w : WatchesForm). length w.heads) c.self.view_is) in
    packed_front _ c.self.inside.slots.items c.args.slot c.code_of-place.result c.index-next.result.now c.args.lit refl c.code_of-place.ensures
    (get_or_read c.self.inside.heads.items c.code_of-place.result c.index-next.result.now within c.index-next.ensures 0)
    ∙ ap (λ (w : WatchesForm). at_front w c.args.slot c.args.lit) c.self.view_is
