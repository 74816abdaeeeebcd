use Rattle.std.proofs.Common.{◌≡◌, ◌-◌, drop, Some}
use Rattle.gp_window.specs.Windows.{CanGoTo, windows_to}
use Rattle.gp_window.proofs.windows.past.Given as goal

abbrev pub invariant-loop-passed : goal.invariant-loop-passed
invariant-loop-passed l =
    CanGoTo l.last (Some l.here)
    × (drop (l.count - l.passed) (windows_to l.last (Some l.here)) ≡ drop l.count (windows_to l.last (Some l.initial.here)))
