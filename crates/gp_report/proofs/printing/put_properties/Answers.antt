use Rattle.gp_writer.specs.LinesLaws.{one_more}
use Rattle.gp_report.specs.Printed.{property_lines_of}
use Rattle.gp_report.proofs.printing.put_properties.Goals as goal

pub loop-property-preserved : goal.loop-property-preserved
loop-property-preserved g c =
    rw c.in_ok-put_property.ensures
    (one_more (property_lines_of g.S.Shows.lines) c.loop-property.text.items _ c.args.properties.now c.property-item.result c.loop-property.property-index c.loop-property-test.true c.property-item.is c.loop-property.invariant)
