-- The words that were taken, and then what is left, are all.
use Rattle.std.proofs.Common.{◌≡◌, ◌++◌, length}
use Rattle.gp_text.proofs.line.collect_words.Given as goal

abbrev pub invariant-loop-word : goal.invariant-loop-word
invariant-loop-word l = l.words ++ l.rest ≡ l.initial.rest

abbrev pub decreases-loop-word : goal.decreases-loop-word
decreases-loop-word l = length l.rest
