use Rattle.std.proofs.Common.{◌≡◌, ◌++◌, drop, flat_map}
use Rattle.gp_overview.specs.Page.{property_row}
use Rattle.gp_overview.proofs.page.put_property_rows.Given as goal

abbrev pub invariant-loop-property : goal.invariant-loop-property
invariant-loop-property l =
    l.text.items ++ flat_map (property_row l.windows) (drop l.property-index l.properties) ≡ l.initial.text.items ++ flat_map (property_row l.windows) l.properties
