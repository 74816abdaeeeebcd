use Rattle.std.proofs.Common.{◌≡◌, drop}
use Rattle.gp_property.specs.Reading.{nothing_read, reading_after}
use Rattle.gp_property.proofs.reading.properties_from.Given as goal

abbrev pub invariant-loop-line : goal.invariant-loop-line
invariant-loop-line l = reading_after l.reading (drop l.line-index l.lines) ≡ reading_after nothing_read l.lines
