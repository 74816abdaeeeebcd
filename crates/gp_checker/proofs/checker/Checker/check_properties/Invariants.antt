use Rattle.std.proofs.Common.{◌≡◌, take}
use Rattle.std.specs.List.{AllZip, enumerate_from}
use Rattle.gp_checker.specs.Accepted.{AcceptsProperty}
use Rattle.gp_checker.proofs.checker.Checker.check_properties.Given as goal

abbrev pub invariant-loop-number : goal.invariant-loop-number
invariant-loop-number l =
    (l.self ≡ l.fn.self)
    × AllZip (AcceptsProperty l.fn.self.window l.fn.self.budget l.fn.self.shared) (take l.number (enumerate_from 0 l.properties)) (take l.number l.records)
