-- The numbers by which the rules of the step are told.
use Rattle.std.specs.Prelude.{ℕ}
use Rattle.gp_replay.specs.declared.rule.Rule.{Rule}
use Rattle.gp_replay.specs.declared.rule.Rule.TheVariants.{NotNext, NotStarted, LockHeld, WrongValue, NotExited}

-- the number of a rule
abbrev pub number_of_rule : Rule → ℕ
number_of_rule NotNext = 1
number_of_rule NotStarted = 2
number_of_rule LockHeld = 3
number_of_rule WrongValue = 4
number_of_rule NotExited = 5
