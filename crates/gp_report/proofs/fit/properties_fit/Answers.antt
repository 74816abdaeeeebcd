use Rattle.gp_report.specs.Records.{Entry, PropertyRecord}
use Rattle.gp_report.specs.Entries.{entries_in}
use Rattle.gp_report.specs.Telling.{HasClauses}
use Rattle.gp_report.specs.Typed.{IsTypedProperty}
use Rattle.gp_report.proofs.Seen.{one_part_seen, one_seen}
use Rattle.gp_report.proofs.fit.properties_fit.Goals as goal

pub loop-property-preserved : goal.loop-property-preserved
loop-property-preserved c = (
  one_seen IsTypedProperty c.args.properties.now c.property-item.result c.loop-property.property-index c.loop-property-test.true c.property-item.is c.property_fits.ensures.typed c.loop-property.invariant.0,
  one_part_seen (λ (entry : Entry). HasClauses entry.answer) (λ (property : PropertyRecord). entries_in property.body) c.args.properties.now c.property-item.result c.loop-property.property-index
      c.loop-property-test.true c.property-item.is c.property_fits.ensures.answers c.loop-property.invariant.1,
)
