use Rattle.std.proofs.Common.{◌≡◌, ◌++◌, drop}
use Rattle.gp_text.specs.Spelling.{after_words}
use Rattle.gp_drawing.proofs.words.put_objects.Given as goal

abbrev pub invariant-loop-object : goal.invariant-loop-object
invariant-loop-object l = l.text.items ++ after_words (drop l.object-index l.objects) ≡ l.initial.text.items ++ after_words l.objects
