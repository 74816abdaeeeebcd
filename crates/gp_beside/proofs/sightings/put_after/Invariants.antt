-- What is put, and then what is left, is all.
use Rattle.std.proofs.Common.{◌≡◌, ◌++◌, drop}
use Rattle.gp_text.specs.Spelling.{after_words}
use Rattle.gp_beside.proofs.sightings.put_after.Given as goal

abbrev pub invariant-loop-word : goal.invariant-loop-word
invariant-loop-word l = l.text.items ++ after_words (drop l.word-index l.words) ≡ l.initial.text.items ++ after_words l.words
