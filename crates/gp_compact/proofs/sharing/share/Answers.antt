use Rattle.std.proofs.Common.{◌≡◌, ◌∙◌, ap, List}
use Rattle.gp_report.specs.Records.{Entry}
use Rattle.gp_report.specs.Entries.{entries_among, entries_in}
use Rattle.gp_sharing.specs.Compacted.{with_entries}
use Rattle.gp_compact.proofs.Walks.{property_left, property_more}
use Rattle.gp_compact.proofs.sharing.share.Goals as goal

pub loop-property-preserved : goal.loop-property-preserved
loop-property-preserved c =
    let sizes = c.args.sizes in
    let list = c.loop-property.list in
    let properties = c.properties-property-items.result.now in
    let made : c.share_entries.new.list ≡ with_entries c.args.sizes c.loop-property.list (entries_in c.property-item.result.body) =
    c.in_ok-share_entries.ensures ∙ ap (λ (entries : List Entry). with_entries c.args.sizes c.loop-property.list entries) c.entries.ensures in (
      property_more sizes list properties c.property-item.result c.loop-property.property-index (with_entries c.args.sizes c.args.shared (entries_among c.properties-property-items.result.now)) c.share_entries.new.list
          c.loop-property-test.true c.property-item.is made c.loop-property.invariant.0,
      property_left sizes list properties c.property-item.result c.loop-property.property-index c.share_entries.new.list c.loop-property-test.true c.property-item.is made c.loop-property.invariant.1,
    )
