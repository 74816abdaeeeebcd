use Rattle.std.proofs.Common.{length}
use Rattle.gp_cases.proofs.layers.texts.tell_words.Given as goal

abbrev pub decreases-loop-word : goal.decreases-loop-word
decreases-loop-word l = length l.words
