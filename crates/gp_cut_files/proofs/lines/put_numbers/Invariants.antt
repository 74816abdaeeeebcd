use Rattle.std.proofs.Common.{◌≡◌, ◌++◌, decimal, drop, map}
use Rattle.gp_text.specs.Spelling.{after_words}
use Rattle.gp_cut_files.proofs.lines.put_numbers.Given as goal

abbrev pub invariant-loop-number : goal.invariant-loop-number
invariant-loop-number l =
    l.text.items ++ after_words (map decimal (drop l.number-index l.numbers)) ≡ l.initial.text.items ++ after_words (map decimal l.numbers)
