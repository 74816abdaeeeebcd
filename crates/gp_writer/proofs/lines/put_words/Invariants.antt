use Rattle.std.proofs.Common.{◌≡◌, ◌++◌, drop, map}
use Rattle.gp_text.specs.Spelling.{after_words}
use Rattle.gp_writer.proofs.lines.put_words.Given as goal

abbrev pub invariant-loop-word : goal.invariant-loop-word
invariant-loop-word g l = l.text.items ++ after_words (map g.W.Spelled.word (drop l.word-index l.words)) ≡ l.initial.text.items ++ after_words (map g.W.Spelled.word l.words)
