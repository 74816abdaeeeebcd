use Rattle.std.proofs.Common.{◌≡◌, ◌-◌}
use Rattle.gp_window.specs.Marks.{after_marks, after_marks_from}
use Rattle.gp_window.specs.Holders.{held_over}
use Rattle.gp_window.proofs.marks.check_marks.Given as goal

abbrev pub invariant-loop-before : goal.invariant-loop-before
invariant-loop-before l =
    (l.holders ≡ held_over l.traces l.before)
    × (after_marks_from l.traces l.before (l.epochs - 1 - l.before) ≡ after_marks l.epochs l.traces)
