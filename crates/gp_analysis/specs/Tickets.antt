-- How many asks there are, and how many of them have a ticket.
use Rattle.std.specs.Prelude.{ℕ, ◌+◌, ◌*◌, List, [], ◌∷◌, Option, None, Some, Result, Ok, Err, if◌then◌else◌, length, nat_lt, sum_by}
use Rattle.gp_instance.specs.declared.instance.Instance.{Instance}
use Rattle.gp_instance.specs.declared.instance.InstancesFault.{InstancesFault}
use Rattle.gp_report.specs.declared.record.AnswerOf.{AnswerOf}
use Rattle.gp_window.specs.RecordingForm.{RecordingForm}
use Rattle.gp_window.specs.WindowForm.{WindowForm, numbers_from, window_of}
use Rattle.gp_analysis.specs.declared.counting.Counted.{Counted}
use Rattle.gp_analysis.specs.declared.counting.Counted.TheVariants.{Listed, Asked}
use Rattle.gp_analysis.specs.declared.question.LeftOut.{LeftOut}
use Rattle.gp_analysis.specs.Question.{QuestionForm}

-- how many asks are listed of a subject; of one that has too many, none
abbrev pub listed_count : Result (List Instance) InstancesFault → ℕ
listed_count (Ok asks) = length asks
listed_count (Err fault) = 0

-- how many of so many asks have a ticket in a window that is left out, or is not: none where it is
abbrev pub asked_of : Option LeftOut → ℕ → ℕ
asked_of None count = count
asked_of (Some why) count = 0

-- an ask that has an answer already has no ticket
abbrev pub tickets_of : {Shown : Type 0} → Option (AnswerOf Shown) → ℕ
tickets_of None = 1
tickets_of (Some given) = 0

module _ {Subject Shown : Type 0} (question : QuestionForm Subject Shown) where
  -- how many of these asks of a subject have a ticket
  abbrev pub tickets_in : WindowForm → Subject → List Instance → ℕ
  tickets_in window subject [] = 0
  tickets_in window subject (ask ∷ asks) = tickets_of (question.given window subject ask.events) + tickets_in window subject asks

  -- the same of the asks that are listed; of too many, none
  abbrev pub tickets_listed : WindowForm → Subject → Result (List Instance) InstancesFault → ℕ
  tickets_listed window subject (Ok asks) = tickets_in window subject asks
  tickets_listed window subject (Err fault) = 0

  -- how many asks of these subjects are listed in a window, the first of which has this number
  abbrev pub subjects_count : WindowForm → ℕ → List Subject → ℕ
  subjects_count window number [] = 0
  subjects_count window number (subject ∷ subjects) =
      listed_count (question.asks window subject number) + subjects_count window (number + 1) subjects

  -- how many of them have a ticket
  abbrev pub subjects_tickets : WindowForm → ℕ → List Subject → ℕ
  subjects_tickets window number [] = 0
  subjects_tickets window number (subject ∷ subjects) =
      tickets_listed window subject (question.asks window subject number) + subjects_tickets window (number + 1) subjects

  -- how many asks have a ticket in a window
  abbrev pub window_asked : WindowForm → ℕ
  window_asked window = asked_of (question.left_out window) (subjects_tickets window 0 question.subjects)

  -- how many asks are counted as listed in a window: of one that is large none, since it is left out
  abbrev pub window_listed : WindowForm → ℕ
  window_listed window = if question.is_large window then 0 else subjects_count window 0 question.subjects

  -- how many asks have a ticket in window k
  abbrev pub asked_in : RecordingForm → ℕ → ℕ
  asked_in recording k = window_asked (window_of recording k)

  -- how many asks have a ticket in all windows
  abbrev pub asked_total : RecordingForm → ℕ
  asked_total recording = sum_by (asked_in recording) (numbers_from 1 recording.manifest.epochs)

  -- how many asks of a window are counted: all that are listed where it is not large, or those that have a ticket
  abbrev pub window_count : Counted → WindowForm → ℕ
  window_count Listed window = window_listed window
  window_count Asked window = window_asked window

  -- how many asks of all windows are counted
  abbrev pub total_of : Counted → RecordingForm → ℕ
  total_of counted recording = sum_by (λ (k : ℕ). window_count counted (window_of recording k)) (numbers_from 1 recording.manifest.epochs)

  -- how many asks have a ticket, where that times a budget is over 1,000,000
  abbrev pub too_much : RecordingForm → ℕ → Option ℕ
  too_much recording budget = if nat_lt 1000000 (asked_total recording * budget) then Some (asked_total recording) else None
