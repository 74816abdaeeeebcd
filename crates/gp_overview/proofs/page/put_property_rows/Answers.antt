-- One property more.
use Rattle.std.proofs.Common.{◌∙◌, ap, List, ℕ}
use Rattle.gp_overview.specs.Counts.{counts_of}
use Rattle.gp_overview.specs.Page.{counts_row, property_row}
use Rattle.gp_overview.proofs.Rows.{one_row}
use Rattle.gp_overview.proofs.page.put_property_rows.Goals as goal

pub loop-property-preserved : goal.loop-property-preserved
loop-property-preserved c =
    let property = c.property-item.result in
    one_row (property_row c.args.windows.now) c.args.properties.now property c.loop-property.property-index c.loop-property.text.items c.put_counts_row.new.text.items (counts_row c.as_bytes.result.now c.in_ok-counts.counts) _
    c.loop-property-test.true c.property-item.is c.in_ok-put_counts_row.ensures
    (ap (λ (name : List ℕ). counts_row name c.in_ok-counts.counts) (c.as_bytes.ensures.value ∙ c.name-in-loop-property.ensures.value)
    ∙ ap (counts_row property.name) (c.in_ok-counts.ensures ∙ ap (counts_of c.args.windows.now) c.name.ensures.value))
    c.loop-property.invariant
