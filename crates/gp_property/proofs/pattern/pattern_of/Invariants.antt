use Rattle.std.proofs.Common.{◌≡◌, drop}
use Rattle.gp_property.specs.Pattern.{draft_after, no_pattern}
use Rattle.gp_property.proofs.pattern.pattern_of.Given as goal

abbrev pub invariant-loop-word : goal.invariant-loop-word
invariant-loop-word l = draft_after l.draft (drop l.word-index l.words) ≡ draft_after no_pattern l.words
