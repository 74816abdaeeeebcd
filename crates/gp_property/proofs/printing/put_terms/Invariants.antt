use Rattle.std.proofs.Common.{◌≡◌, ◌++◌, drop, map}
use Rattle.gp_property.specs.Words.{term_word}
use Rattle.gp_text.specs.Spelling.{after_words}
use Rattle.gp_property.proofs.printing.put_terms.Given as goal

abbrev pub invariant-loop-term : goal.invariant-loop-term
invariant-loop-term l = l.text.items ++ after_words (map term_word (drop l.term-index l.terms)) ≡ l.initial.text.items ++ after_words (map term_word l.terms)
