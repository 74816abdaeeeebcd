-- Answers of windows that are drawn by ticket.
use Rattle.std.specs.Prelude.{ℕ, ◌≡◌, ◌+◌, All}
use Rattle.gp_tickets.specs.declared.drawn.Drawn.{Drawn}
use Rattle.gp_tickets.specs.declared.drawn.Made.{Made}
use Rattle.gp_tickets.specs.declared.tickets.Tickets.{Tickets}
use Rattle.gp_tickets.specs.Drawn.{drawers_of, HasDrawn}
use Rattle.gp_window.specs.RecordingForm.{RecordingForm}
use Rattle.gp_linked.specs.declared.answer.LinkAnswer.{LinkAnswer}
use Rattle.gp_linked.specs.Answered.{AnswersNext}

-- what was made of a ticket is the answer of the window whose number is one more
abbrev pub AnswersOwn : RecordingForm → ℕ → Made LinkAnswer → Type 0
AnswersOwn r budget made = AnswersNext r budget (made.number + 1) made.value

-- so many drawers drew, and what was made of each ticket that they drew is the answer of its window
pub record AnswersDrawn (tickets : Tickets) (r : RecordingForm) (budget drawers : ℕ) (drawn : Drawn LinkAnswer) : Type 0 where
  pub own : HasDrawn tickets drawn
  pub stands_for : drawers_of drawn ≡ drawers
  pub answers : All (AnswersOwn r budget) drawn.made.items
