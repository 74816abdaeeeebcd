use Rattle.gp_report.proofs.Tallies.{one_property}
use Rattle.gp_report.proofs.tally.with_properties.Goals as goal

pub loop-property-preserved : goal.loop-property-preserved
loop-property-preserved g c =
    rw (c.in_ok-tally.ensures, c.entries.ensures)
    (one_property c.loop-property.tally _ c.args.properties.now c.property-item.result c.loop-property.property-index c.loop-property-test.true c.property-item.is c.loop-property.invariant)
