use Rattle.std.proofs.Common.{◌≡◌, ◌++◌, drop}
use Rattle.gp_property.specs.Words.{steps_words}
use Rattle.gp_text.specs.Spelling.{after_words}
use Rattle.gp_property.proofs.printing.put_steps.Given as goal

abbrev pub invariant-loop-step : goal.invariant-loop-step
invariant-loop-step l = l.text.items ++ after_words (steps_words (drop l.step-index l.steps)) ≡ l.initial.text.items ++ after_words (steps_words l.steps)
