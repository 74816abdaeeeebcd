-- What is due to the words and to the told files: a function of these alone.
use Rattle.std.specs.Prelude.{ℕ, ◌≡◌, List, Option, Some, None, Result, Ok, Err}
use Rattle.gp_beside.specs.Beside.{noted_at}
use Rattle.gp_beside.specs.declared.beside.Noted.{Noted}
use Rattle.gp_checker.specs.declared.failure.Checked.{Checked}
use Rattle.gp_outside.specs.Folders.{File}
use Rattle.gp_predict.specs.Due.{words_refused}
use Rattle.gp_predict.specs.Submission.{submission_at}
use Rattle.gp_predict.specs.Telling.{of_reply}
use Rattle.gp_predict.specs.Told.{Told}
use Rattle.gp_predict.specs.Verdict.{IsVerdict}
use Rattle.gp_predict.specs.declared.reply.Reply.{Reply}
use Rattle.gp_predict.specs.declared.submission.Submission.{Submission}
use Rattle.gp_words.specs.Showing.{ShowForm, show_command_of}
use Rattle.gp_show.specs.Show.{of_shown}

-- what is due: a refusal, or what was submitted is shown as a command asks, with what stands beside it
pub data Expected : Type 0 where
  Text : Reply → Expected
  Shown : ShowForm → Submission → Noted → Expected

-- what stands beside what was submitted, as a command asks
abbrev pub noted_of : List File → ShowForm → Submission → Noted
noted_of files command submission = noted_at files command.folder command.source submission.listing.recording.traces

-- what was submitted, or the refusal that came before it
abbrev pub as_shown : List File → ShowForm → Result Submission Reply → Expected
as_shown files command (Ok submission) = Shown command submission (noted_of files command submission)
as_shown files command (Err refusal) = Text refusal

-- what is due to a command, where these files are told; where none are told, nothing is said
abbrev pub due_by : ShowForm → Option (List File) → Option Expected
due_by command None = None
due_by command (Some files) = Some (as_shown files command (submission_at files command.folder))

-- what is due where the words are this command
abbrev pub due_in : Option (List File) → Option ShowForm → Option Expected
due_in told None = Some (Text words_refused)
due_in told (Some command) = due_by command told

-- what is due to the words and the told files; wrong words are refused whatever is told
abbrev pub due_answer : List (List ℕ) → Option (List File) → Option Expected
due_answer words told = due_in told (show_command_of words)

-- what may be told where this is due: a refusal, or what is shown of the report with the verdict on it
abbrev pub Means : Expected → Told → Type 0
Means (Text reply) told = told ≡ of_reply reply
Means (Shown command submission noted) told =
    (checked : Checked) × IsVerdict submission checked × (told ≡ of_shown command submission noted checked)
