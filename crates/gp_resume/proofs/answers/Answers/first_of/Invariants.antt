use Rattle.std.proofs.Common.{◌≡◌, List, length}
use Rattle.gp_window.specs.declared.schedule.EventId.{EventId}
use Rattle.gp_resume.specs.Old.{answer_in}
use Rattle.gp_resume.specs.Table.{answer_at, told_in}
use Rattle.gp_resume.proofs.Looked.{or_else}
use Rattle.gp_resume.proofs.answers.Answers.first_of.Given as goal

abbrev pub invariant-loop-entry : goal.invariant-loop-entry
invariant-loop-entry l = (ids : List EventId) → or_else (answer_in l.left ids) (answer_at (told_in l.table) ids) ≡ answer_in l.entries ids

abbrev pub decreases-loop-entry : goal.decreases-loop-entry
decreases-loop-entry l = length l.left
