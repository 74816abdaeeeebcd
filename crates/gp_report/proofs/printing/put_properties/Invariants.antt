use Rattle.std.proofs.Common.{◌≡◌, ◌++◌, drop}
use Rattle.std.specs.List.{flat_map}
use Rattle.gp_text.specs.Spelling.{spelling}
use Rattle.gp_report.specs.Printed.{property_lines_of}
use Rattle.gp_report.proofs.printing.put_properties.Given as goal

abbrev pub invariant-loop-property : goal.invariant-loop-property
invariant-loop-property g l = l.text.items ++ spelling (flat_map (property_lines_of g.S.Shows.lines) (drop l.property-index l.properties)) ≡ l.initial.text.items ++ spelling (flat_map (property_lines_of g.S.Shows.lines) l.properties)
