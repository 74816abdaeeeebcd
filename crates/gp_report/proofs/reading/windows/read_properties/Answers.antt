use Rattle.std.proofs.Common.{sym, ◌∙◌, length}
use Rattle.gp_report.specs.Reading.{read_properties}
use Rattle.gp_report.proofs.Fuel.{properties_go_on, property_fewer}
use Rattle.gp_report.proofs.reading.windows.read_properties.Goals as goal

pub loop-alloc-preserved : goal.loop-alloc-preserved
loop-alloc-preserved c =
    properties_go_on c.one_spelling.ensures c.event_ids_read_exactly.ensures c.args.end c.loop-alloc.lines c.read_property.new.lines c.loop-alloc.properties c.push.new.self c.in_ok-property.property
    (read_properties c.args.end (length c.args.lines.now) c.args.lines.now) (sym c.is_at.ensures ∙ c.loop-alloc-test.true) c.in_ok-property.ensures c.in_ok-push.ensures.ok c.loop-alloc.invariant

pub loop-alloc-smaller : goal.loop-alloc-smaller
loop-alloc-smaller c = property_fewer c.one_spelling.ensures c.event_ids_read_exactly.ensures c.args.end c.loop-alloc.lines c.in_ok-property.property c.read_property.new.lines c.in_ok-property.ensures
