use Rattle.std.proofs.Common.{◌≡◌, take}
use Rattle.std.specs.List.{AllZip}
use Rattle.gp_checker.specs.Accepted.{AcceptsEntry}
use Rattle.gp_checker.proofs.checker.Checker.check_entries.Given as goal

abbrev pub invariant-loop-place : goal.invariant-loop-place
invariant-loop-place l =
    (l.self ≡ l.fn.self)
    × AllZip (AcceptsEntry l.fn.self.window l.fn.self.budget l.fn.self.shared l.property) (take l.place l.instances) (take l.place l.entries)
