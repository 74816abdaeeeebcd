use Rattle.std.proofs.Common.{◌≡◌, ◌++◌, decimal, drop, map}
use Rattle.gp_text.specs.Spelling.{after_words}
use Rattle.gp_shard.proofs.printing.put_numbers.Given as goal

-- what is put, and then what is left, is all
abbrev pub invariant-loop-number : goal.invariant-loop-number
invariant-loop-number l = l.out.items ++ after_words (map decimal (drop l.number-index l.numbers)) ≡ l.initial.out.items ++ after_words (map decimal l.numbers)
