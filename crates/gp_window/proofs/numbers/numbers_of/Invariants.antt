use Rattle.std.proofs.Common.{◌≡◌, drop}
use Rattle.gp_window.specs.Number.{numbers_of}
use Rattle.gp_base.specs.Results.{some_prefix}
use Rattle.gp_window.proofs.numbers.numbers_of.Given as goal

abbrev pub invariant-loop-word : goal.invariant-loop-word
invariant-loop-word l = some_prefix l.numbers (numbers_of (drop l.word-index l.words)) ≡ numbers_of l.words
