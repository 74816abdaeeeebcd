-- What is due to the program that shows a report is never the answer without a text.
use Rattle.std.specs.Prelude.{ℕ, ◌≡◌, ◌≢◌, List, Option, Some}
use Rattle.gp_outside.specs.Folders.{File}
use Rattle.gp_predict.specs.declared.reply.Reply.{Reply}
use Rattle.gp_predict.specs.Refusal.{never_due}
use Rattle.gp_predict.specs.Told.{IsDone}
use Rattle.gp_show.specs.Due.{Text, due_answer}

-- whatever the words and whichever files are told, that answer is not due
abbrev pub ShownNeverDue : Type 0
ShownNeverDue = (words : List (List ℕ)) (told : Option (List File)) → due_answer words told ≢ Some (Text never_due)

-- a text that is due has a status of 0 to 3, or 7
abbrev pub ShownTextsAreDone : Type 0
ShownTextsAreDone = (words : List (List ℕ)) (told : Option (List File)) (reply : Reply) → due_answer words told ≡ Some (Text reply) → IsDone reply.status
