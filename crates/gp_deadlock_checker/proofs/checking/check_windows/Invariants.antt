use Rattle.std.proofs.Common.{length}
use Rattle.gp_deadlock_checker.specs.Accepted.{AcceptsWindow}
use Rattle.gp_deadlock_checker.specs.Rejected.{FailsWindow}
use Rattle.gp_checker.specs.WalkLaws.{AreChecked}
use Rattle.gp_deadlock_checker.proofs.checking.check_windows.Given as goal

abbrev pub decreases-loop-window : goal.decreases-loop-window
decreases-loop-window l = length l.left

abbrev pub invariant-loop-window : goal.invariant-loop-window
invariant-loop-window l = AreChecked (AcceptsWindow l.report.budget) (FailsWindow l.report.budget) l.recording l.report.windows l.left
