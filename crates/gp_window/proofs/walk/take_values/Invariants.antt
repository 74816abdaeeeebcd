use Rattle.std.proofs.Common.{◌≡◌, length}
use Rattle.gp_window.specs.Walk.{after_given, past_given}
use Rattle.gp_window.proofs.walk.take_values.Given as goal

abbrev pub invariant-loop-rest : goal.invariant-loop-rest
invariant-loop-rest l =
    (after_given l.k l.values l.rest ≡ after_given l.k l.initial.values l.initial.rest)
    × (past_given l.k l.rest ≡ past_given l.k l.initial.rest)

abbrev pub decreases-loop-rest : goal.decreases-loop-rest
decreases-loop-rest l = length l.rest
