-- What is left has the words of the whole.
use Rattle.std.proofs.Common.{◌≡◌, length}
use Rattle.gp_text.specs.Line.{words_of}
use Rattle.gp_text.proofs.cursor.cut_word.Given as goal

abbrev pub invariant-loop-word : goal.invariant-loop-word
invariant-loop-word l = words_of l.rest ≡ words_of l.line

abbrev pub decreases-loop-word : goal.decreases-loop-word
decreases-loop-word l = length l.rest
