-- What is due to the program that shows a report is never the answer without a text.
use Rattle.std.proofs.Common.{subst, List, Option, Some, None, Result, Ok, Err}
use Rattle.gp_outside.specs.Folders.{File}
use Rattle.gp_words.specs.Showing.{ShowForm, show_command_of}
use Rattle.gp_predict.specs.declared.reply.Reply.{Reply}
use Rattle.gp_predict.specs.declared.submission.Submission.{Submission}
use Rattle.gp_predict.specs.Refusal.{never_due}
use Rattle.gp_predict.specs.Submission.{submission_at}
use Rattle.gp_show.specs.Due.{Expected, Shown, Text, as_shown, due_by, due_in}
use Rattle.gp_due.specs.Saying.{OnlySays}
use Rattle.gp_due.specs.ShownNeverDue.{ShownNeverDue, ShownTextsAreDone}
use Rattle.gp_due.proofs.Folder.{submission_answers}
use Rattle.gp_due.proofs.Refusals.{IsAnswer, not_done, unread}

-- nothing is due, or what is shown, or a reply of a run that is done
abbrev MayBeDue : Option Expected → Type 0
MayBeDue None = Unit {0}
MayBeDue (Some (Text reply)) = IsAnswer reply
MayBeDue (Some (Shown command submission noted)) = Unit {0}

as_is_due : (files : List File) (command : ShowForm) (read : Result Submission Reply) → OnlySays IsAnswer read → MayBeDue (Some (as_shown files command read))
as_is_due files command (Ok submission) says = tt
as_is_due files command (Err refusal) says = says.fault

by_is_due : (command : ShowForm) (told : Option (List File)) → MayBeDue (due_by command told)
by_is_due command None = tt
by_is_due command (Some files) = as_is_due files command (submission_at files command.folder) (submission_answers files command.folder)

in_is_due : (told : Option (List File)) (command : Option ShowForm) → MayBeDue (due_in told command)
in_is_due told None = unread
in_is_due told (Some command) = by_is_due command told

pub texts_done : ShownTextsAreDone
texts_done words told reply due = subst MayBeDue due (in_is_due told (show_command_of words))

pub never_comes : ShownNeverDue
never_comes words told due = not_done (texts_done words told never_due due)
