use Rattle.std.proofs.Common.{◌≡◌, ◌++◌, drop}
use Rattle.std.specs.List.{flat_map}
use Rattle.gp_text.specs.Spelling.{after_words}
use Rattle.gp_tell.specs.Naming.{name_by}
use Rattle.gp_tell.specs.ReasonText.{before_words}
use Rattle.gp_tell.proofs.reason.put_others.Given as goal

abbrev pub invariant-loop-event : goal.invariant-loop-event
invariant-loop-event l = l.text.items ++ after_words (flat_map (before_words (name_by l.naming)) (drop l.event-index l.events)) ≡ l.initial.text.items ++ after_words (flat_map (before_words (name_by l.naming)) l.events)
