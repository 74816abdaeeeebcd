-- One more is numbered, and in the end none is left.
use Rattle.gp_resumed.proofs.Numbering.{all_numbered, none_numbered, one_numbered}
use Rattle.gp_resumed.proofs.numbered.number_all.Goals as goal

pub loop-property-init : goal.loop-property-init
loop-property-init c = none_numbered c.args.properties.now c.new-numbered.result.items c.requires c.new-numbered.ensures.items

pub loop-property-preserved : goal.loop-property-preserved
loop-property-preserved c =
    one_numbered c.args.properties.now c.loop-property.left.now c.in-Some.more.now c.in-Some.property.now c.loop-property.number c.loop-property.numbered.items c.push.new.self.items c.in-Some.ensures.cases.0 c.in_ok-push.ensures.items
    c.loop-property.invariant

pub returns : goal.returns
returns c = all_numbered c.args.properties.now c.loop-property.left.now c.loop-property.number c.loop-property.numbered.items c.in_default.ensures.cases c.loop-property.invariant
