-- What is due to a command where its files are told.
use Rattle.std.proofs.Common.{◌≡◌, refl, List}
use Rattle.std.specs.Prelude.{Option, None, Some}
use Rattle.gp_outside.specs.Folders.{File}
use Rattle.gp_predict.specs.Run.{WhereDue}
use Rattle.gp_predict.specs.RunLaws.{where_due, where_none}
use Rattle.gp_predict.specs.Submission.{submission_at}
use Rattle.gp_predict.specs.Telling.{of_reply}
use Rattle.gp_predict.specs.declared.reply.Reply.{Reply}
use Rattle.gp_words.specs.Showing.{ShowForm}
use Rattle.gp_show.specs.Due.{Expected, Means, Text, as_shown, due_by}

-- where a text is due, it may be told
pub text_means : (reply : Reply) → Means (Text reply) (of_reply reply)
text_means reply = refl

-- what is met by what was submitted is met by what is due
pub reached : (command : ShowForm) (files : Option (List File)) (P : Expected → Type 0)
    → ((told : List File) → files ≡ Some told → P (as_shown told command (submission_at told command.folder))) → WhereDue (due_by command files) P
reached command None P holds = where_none P
reached command (Some told) P holds = where_due (as_shown told command (submission_at told command.folder)) P (holds told refl)
