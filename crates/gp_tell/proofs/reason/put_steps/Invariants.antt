use Rattle.std.proofs.Common.{◌≡◌, ◌+◌, ◌++◌, drop}
use Rattle.gp_text.specs.Spelling.{spelling}
use Rattle.gp_tell.specs.Naming.{name_by}
use Rattle.gp_tell.specs.ReasonText.{steps_lines}
use Rattle.gp_tell.proofs.reason.put_steps.Given as goal

abbrev pub invariant-loop-place : goal.invariant-loop-place
invariant-loop-place l = l.text.items ++ spelling (steps_lines (name_by l.naming) (l.place + 1) (drop l.place l.steps)) ≡ l.initial.text.items ++ spelling (steps_lines (name_by l.naming) 1 l.steps)
