use Rattle.std.proofs.Common.{◌≡◌, ◌++◌, drop}
use Rattle.gp_text.specs.Spelling.{spelling}
use Rattle.gp_report.specs.Printed.{entries_lines_of}
use Rattle.gp_report.proofs.printing.put_entries.Given as goal

abbrev pub invariant-loop-number : goal.invariant-loop-number
invariant-loop-number g l = l.text.items ++ spelling (entries_lines_of g.S.Shows.lines l.number (drop l.number l.entries)) ≡ l.initial.text.items ++ spelling (entries_lines_of g.S.Shows.lines 0 l.entries)
