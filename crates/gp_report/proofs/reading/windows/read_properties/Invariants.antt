-- The properties that were read, and then those that are left, are all.
use Rattle.std.proofs.Common.{◌≡◌, length}
use Rattle.gp_report.specs.Reading.{read_properties, with_front}
use Rattle.gp_report.proofs.reading.windows.read_properties.Given as goal

abbrev pub invariant-loop-alloc : goal.invariant-loop-alloc
invariant-loop-alloc l = with_front l.properties (read_properties l.end (length l.lines) l.lines) ≡ read_properties l.end (length l.initial.lines) l.initial.lines

abbrev pub decreases-loop-alloc : goal.decreases-loop-alloc
decreases-loop-alloc l = length l.lines
