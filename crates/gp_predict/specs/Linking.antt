-- What is due to task link: a linking of the recording, or the refusal of too much work.
use Rattle.std.specs.Prelude.{ℕ, ◌*◌, ◌-◌, List, Result, Ok, Err, if◌then◌else◌, nat_lt}
use Rattle.gp_base.specs.Results.{and_then}
use Rattle.gp_linked.specs.declared.answer.LinkReport.{LinkReport}
use Rattle.gp_linked.specs.Printed.{links_lines}
use Rattle.gp_linked.specs.Status.{links_status}
use Rattle.gp_outside.specs.Folders.{File}
use Rattle.gp_text.specs.Spelling.{spelling}
use Rattle.gp_window.specs.RecordingForm.{RecordingForm}
use Rattle.gp_predict.specs.declared.reply.Reply.{Reply}
use Rattle.gp_predict.specs.Content.{recording_at}
use Rattle.gp_predict.specs.Refusal.{limit_refused}
use Rattle.gp_predict.specs.Told.{Linked, Told}

-- a linking of the windows of a recording, each search with this budget
pub record LinkingForm : Type 0 where
  pub recording : RecordingForm
  pub budget : ℕ

-- how many windows are to be linked: each but the last
abbrev pub link_count : RecordingForm → ℕ
link_count recording = recording.manifest.epochs - 1

-- a linking, where the windows that are to be linked, times the budget, are at most 1,000,000
abbrev pub linking_of : RecordingForm → ℕ → Result LinkingForm Reply
linking_of recording budget =
    if nat_lt 1000000 (link_count recording * budget) then Err (limit_refused (link_count recording) budget)
    else Ok (record { recording = recording; budget = budget })

-- what is due to task link on the files of a folder
abbrev pub linking_at : List File → List ℕ → ℕ → Result LinkingForm Reply
linking_at files folder budget = and_then (recording_at files folder) (λ recording. linking_of recording budget)

-- what a report of links tells, which is kept: its text, and whether each window is linked
abbrev pub of_links : LinkReport → Told
of_links report = record { status = links_status report; text = spelling (links_lines report); kept = Linked report }
