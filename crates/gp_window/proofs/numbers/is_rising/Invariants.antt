use Rattle.std.proofs.Common.{◌≡◌, drop}
use Rattle.gp_window.specs.Number.{is_rising}
use Rattle.gp_window.proofs.numbers.is_rising.Given as goal

abbrev pub invariant-loop-number : goal.invariant-loop-number
invariant-loop-number l = is_rising l.least l.high (drop l.number-index l.numbers) ≡ is_rising l.low l.high l.numbers
