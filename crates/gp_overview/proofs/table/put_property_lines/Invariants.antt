use Rattle.std.proofs.Common.{◌≡◌, ◌++◌, drop, flat_map}
use Rattle.gp_overview.specs.Table.{property_line}
use Rattle.gp_overview.proofs.table.put_property_lines.Given as goal

abbrev pub invariant-loop-property : goal.invariant-loop-property
invariant-loop-property l =
    l.text.items ++ flat_map (property_line l.windows) (drop l.property-index l.properties) ≡ l.initial.text.items ++ flat_map (property_line l.windows) l.properties
