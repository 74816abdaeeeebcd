-- The names that were read, and then what the rest spells, are what all spell.
use Rattle.std.proofs.Common.{◌≡◌, length}
use Rattle.gp_trace.specs.Event.{names_of}
use Rattle.gp_trace.proofs.Fronts.{with_names}
use Rattle.gp_trace.proofs.line.names_of.Given as goal

abbrev pub invariant-loop-word : goal.invariant-loop-word
invariant-loop-word l = with_names l.names (names_of l.words) ≡ names_of l.initial.words

abbrev pub decreases-loop-word : goal.decreases-loop-word
decreases-loop-word l = length l.words
