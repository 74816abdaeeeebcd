use Rattle.std.proofs.Common.{◌≡◌, ◌++◌, drop}
use Rattle.std.specs.List.{flat_map}
use Rattle.gp_text.specs.Spelling.{spelling}
use Rattle.gp_report.specs.Printed.{window_lines_of}
use Rattle.gp_report.proofs.printing.put_windows.Given as goal

abbrev pub invariant-loop-window : goal.invariant-loop-window
invariant-loop-window g l = l.text.items ++ spelling (flat_map (window_lines_of g.S.Shows.lines l.format) (drop l.window-index l.windows)) ≡ l.initial.text.items ++ spelling (flat_map (window_lines_of g.S.Shows.lines l.format) l.windows)
