-- What is due to the words and the told files is never the answer without a text.
use Rattle.std.proofs.Common.{subst, Bool, true, false, List, Option, Some, None}
use Rattle.gp_outside.specs.Folders.{File}
use Rattle.gp_words.specs.Command.{CommandForm, command_of}
use Rattle.gp_predict.specs.Due.{due_by, due_in}
use Rattle.gp_predict.specs.Refusal.{never_due}
use Rattle.gp_predict.specs.Tasks.{Expected, reads_files}
use Rattle.gp_due.specs.NeverDue.{NeverDue, TextsAreDone}
use Rattle.gp_due.proofs.Refusals.{found, not_done, unread}
use Rattle.gp_due.proofs.Tasks.{IsDue, task_is_due}

-- nothing is due, or such a thing
abbrev MayBeDue : Option Expected → Type 0
MayBeDue None = Unit {0}
MayBeDue (Some expected) = IsDue expected

by_is_due : (reads : Bool) (command : CommandForm) (told : Option (List File)) → MayBeDue (due_by reads command told)
by_is_due false command told = found
by_is_due true command None = tt
by_is_due true command (Some files) = task_is_due command files command.task

in_is_due : (told : Option (List File)) (command : Option CommandForm) → MayBeDue (due_in told command)
in_is_due told None = unread
in_is_due told (Some command) = by_is_due (reads_files command.task) command told

pub texts_done : TextsAreDone
texts_done words told reply due = subst MayBeDue due (in_is_due told (command_of words))

pub never_comes : NeverDue
never_comes words told due = not_done (texts_done words told never_due due)
