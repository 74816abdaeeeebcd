use Rattle.std.proofs.Common.{◌≡◌, take}
use Rattle.std.specs.List.{AllZip}
use Rattle.gp_deadlock_checker.specs.Accepted.{AcceptsEntry}
use Rattle.gp_deadlock_checker.proofs.entries.check_entries.Given as goal

abbrev pub invariant-loop-place : goal.invariant-loop-place
invariant-loop-place l =
    (l.checker ≡ l.fn.checker)
    × AllZip (AcceptsEntry l.fn.checker.window l.fn.checker.budget l.fn.checker.shared) (take l.place l.cycles) (take l.place l.entries)
