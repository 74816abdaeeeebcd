-- What was read, and then what is left, is all.
use Rattle.std.proofs.Common.{◌≡◌, length}
use Rattle.gp_base.specs.Results.{with_prefix}
use Rattle.gp_report.specs.Reading.{read_words}
use Rattle.gp_report.proofs.reading.lists.push_words.Given as goal

abbrev pub invariant-loop-word : goal.invariant-loop-word
invariant-loop-word g l =
    with_prefix l.things (read_words g.T.Listed.of_word l.number l.words) ≡ with_prefix l.initial.things (read_words g.T.Listed.of_word l.number l.initial.words)

abbrev pub decreases-loop-word : goal.decreases-loop-word
decreases-loop-word g l = length l.words
