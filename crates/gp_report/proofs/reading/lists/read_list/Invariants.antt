-- What was read, and then what is left, is the whole list.
use Rattle.std.proofs.Common.{◌≡◌}
use Rattle.gp_report.specs.Reading.{read_list, with_things}
use Rattle.gp_report.proofs.reading.lists.read_list.Given as goal

abbrev pub invariant-loop-left : goal.invariant-loop-left
invariant-loop-left g l =
    with_things l.things (read_list g.T.Listed.of_word l.end l.last l.left l.lines) ≡ read_list g.T.Listed.of_word l.end l.before l.count l.initial.lines

abbrev pub decreases-loop-left : goal.decreases-loop-left
decreases-loop-left g l = l.left
