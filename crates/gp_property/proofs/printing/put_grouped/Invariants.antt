use Rattle.std.proofs.Common.{◌≡◌, ◌++◌, drop}
use Rattle.gp_property.specs.Words.{grouped_words}
use Rattle.gp_text.specs.Spelling.{after_words}
use Rattle.gp_property.proofs.printing.put_grouped.Given as goal

abbrev pub invariant-loop-atom : goal.invariant-loop-atom
invariant-loop-atom l = l.text.items ++ after_words (grouped_words (drop l.atom-index l.atoms)) ≡ l.initial.text.items ++ after_words (grouped_words l.atoms)
