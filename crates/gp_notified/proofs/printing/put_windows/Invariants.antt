use Rattle.std.proofs.Common.{◌≡◌, ◌++◌, drop}
use Rattle.std.specs.List.{flat_map}
use Rattle.gp_text.specs.Spelling.{spelling}
use Rattle.gp_notified.specs.Printed.{window_lines}
use Rattle.gp_notified.proofs.printing.put_windows.Given as goal

abbrev pub invariant-loop-window : goal.invariant-loop-window
invariant-loop-window l =
    l.text.items ++ spelling (flat_map (window_lines l.unpaired) (drop l.window-index l.windows)) ≡ l.initial.text.items ++ spelling (flat_map (window_lines l.unpaired) l.windows)
