-- The entries that were read, and then those that are left, are all.
use Rattle.std.proofs.Common.{◌≡◌, ◌-◌}
use Rattle.gp_report.specs.Reading.{read_entries, with_front}
use Rattle.gp_report.proofs.reading.answers.read_entries.Given as goal

abbrev pub invariant-loop-due : goal.invariant-loop-due
invariant-loop-due l = with_front l.entries (read_entries l.end l.due (l.count - l.due) l.lines) ≡ read_entries l.end 0 l.count l.initial.lines
