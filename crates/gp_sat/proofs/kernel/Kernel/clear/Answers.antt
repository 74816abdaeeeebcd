use Rattle.std.proofs.Common.{◌∙◌, ap}
use Rattle.gp_sat.specs.State.{cleared}
use Rattle.gp_sat.proofs.Consisting.{clear_parts, lent_named, taken_back}
use Rattle.gp_sat.proofs.kernel.Kernel.clear.Goals as goal

pub take_back-requires-clause-named : goal.take_back-requires-clause-named
take_back-requires-clause-named c = lent_named _ _ c.as_slice.ensures.value c.self.invariant.sound

pub invariant_of-self : goal.invariant_of-self
invariant_of-self c =
    let after = clear_parts _ _ _ _ _ _ _ _ _ _ _
    (taken_back _ 0 _ _ c.as_slice.ensures.value c.take_back.ensures.size c.take_back.ensures.gone c.take_back.ensures.kept)
    c.clear.ensures.items c.clear-2.ensures.items c.first-self-inside.ensures.first c.clear.ensures.capacity c.clear-2.ensures.capacity c.self.invariant in
    after.0

pub returns : goal.returns
returns c =
    let after = clear_parts _ _ _ _ _ _ _ _ _ _ _
    (taken_back _ 0 _ _ c.as_slice.ensures.value c.take_back.ensures.size c.take_back.ensures.gone c.take_back.ensures.kept)
    c.clear.ensures.items c.clear-2.ensures.items c.first-self-inside.ensures.first c.clear.ensures.capacity c.clear-2.ensures.capacity c.self.invariant in
    after.1 ∙ ap cleared c.self.view_is
