-- What is recorded of windows that are drawn by ticket.
use Rattle.std.specs.Prelude.{ℕ, ◌≡◌, ◌+◌, All}
use Rattle.gp_report.specs.declared.record.WindowRecordOf.{WindowRecordOf}
use Rattle.gp_tickets.specs.declared.drawn.Drawn.{Drawn}
use Rattle.gp_tickets.specs.declared.drawn.Made.{Made}
use Rattle.gp_tickets.specs.declared.tickets.Tickets.{Tickets}
use Rattle.gp_tickets.specs.Drawn.{drawers_of, HasDrawn}
use Rattle.gp_window.specs.RecordingForm.{RecordingForm}
use Rattle.gp_window.specs.WindowForm.{window_of}
use Rattle.gp_analysis.specs.declared.task.Telling.{Telling}
use Rattle.gp_analysis.specs.Question.{QuestionForm}
use Rattle.gp_analysis.specs.Telling.{RecordsAs}

module _ {Subject Shown : Type 0} (question : QuestionForm Subject Shown) (telling : Telling) where
  -- what was made of a ticket is the record of its window, whose number is one more
  abbrev pub RecordsOwn : RecordingForm → ℕ → ℕ → Made (WindowRecordOf Shown) → Type 0
  RecordsOwn recording count budget made = RecordsAs question telling count budget (window_of recording (made.number + 1)) made.value

  -- so many drawers drew, and what was made of each ticket that they drew is the record of its window
  pub record RecordsDrawn (tickets : Tickets) (recording : RecordingForm) (count budget drawers : ℕ) (drawn : Drawn (WindowRecordOf Shown)) : Type 0 where
    pub own : HasDrawn tickets drawn
    pub stands_for : drawers_of drawn ≡ drawers
    pub records : All (RecordsOwn recording count budget) drawn.made.items
