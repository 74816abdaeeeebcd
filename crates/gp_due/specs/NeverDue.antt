-- What is due is never the answer without a text: a text that is due has one of the statuses of a run that is done.
use Rattle.std.specs.Prelude.{ℕ, ◌≡◌, ◌≢◌, List, Option, Some}
use Rattle.gp_outside.specs.Folders.{File}
use Rattle.gp_predict.specs.declared.reply.Reply.{Reply}
use Rattle.gp_predict.specs.Due.{due_answer}
use Rattle.gp_predict.specs.Refusal.{never_due}
use Rattle.gp_predict.specs.Tasks.{Text}
use Rattle.gp_predict.specs.Told.{IsDone}

-- whatever the words and whichever files are told, that answer is not due
abbrev pub NeverDue : Type 0
NeverDue = (words : List (List ℕ)) (told : Option (List File)) → due_answer words told ≢ Some (Text never_due)

-- a text that is due has a status of 0 to 3, or 7
abbrev pub TextsAreDone : Type 0
TextsAreDone = (words : List (List ℕ)) (told : Option (List File)) (reply : Reply) → due_answer words told ≡ Some (Text reply) → IsDone reply.status
