-- What a step that is not made says.
use Rattle.std.specs.Prelude.{◌≡◌, Result, Err}
use Rattle.gp_replay.specs.declared.rule.Rule.{Rule}
use Rattle.gp_replay.specs.declared.rule.StepFault.{StepFault}
use Rattle.gp_replay.specs.declared.rule.StepFault.TheVariants.{Broken, Memory}
use Rattle.gp_replay.specs.declared.state.State.{State}

-- the rule that is told is the one by which the event may not happen; want of memory tells nothing
abbrev pub BreaksRule : Result State Rule → StepFault → Type 0
BreaksRule due (Broken rule) = due ≡ Err rule
BreaksRule due Memory = Unit {0}
