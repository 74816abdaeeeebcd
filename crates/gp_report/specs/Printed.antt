-- The lines of words that tell a report. Records tell what is shown by lines of its own.
use Rattle.std.specs.Prelude.{ℕ, ◌+◌, ◌==◌, List, [], ◌∷◌, ◌++◌, length, map, codes, decimal, flat_map, if◌then◌else◌}
use Rattle.gp_certificate.specs.declared.step.Step.{Step}
use Rattle.gp_window.specs.declared.schedule.Schedule.{Schedule}
use Rattle.gp_window.specs.EventIds.{event_id_text}
use Rattle.gp_writer.specs.Lines.{in_lines}
use Rattle.gp_writer.specs.Steps.{step_lines}
use Rattle.gp_report.specs.declared.record.AnswerOf.{AnswerOf}
use Rattle.gp_report.specs.declared.record.AnswerOf.TheVariants.{Found, Impossible, Undecided}
use Rattle.gp_report.specs.declared.record.EntryOf.{EntryOf}
use Rattle.gp_report.specs.declared.record.PropertyBodyOf.{PropertyBodyOf}
use Rattle.gp_report.specs.declared.record.PropertyBodyOf.TheVariants.{TooMany, Entries}
use Rattle.gp_report.specs.declared.record.PropertyRecordOf.{PropertyRecordOf}
use Rattle.gp_report.specs.declared.record.WindowBodyOf.{WindowBodyOf}
use Rattle.gp_report.specs.declared.record.WindowBodyOf.TheVariants.{TooLarge, Answers}
use Rattle.gp_report.specs.declared.record.WindowRecordOf.{WindowRecordOf}
use Rattle.gp_report.specs.Entries.{count_of, entries_in, entries_of, is_found, is_impossible, is_undecided}
use Rattle.gp_report.specs.Records.{Answer, Entry, PropertyRecord, WindowBody, WindowRecord}
use Rattle.gp_report.specs.ReportForm.{ReportForm}

-- the line of the instance of this number
abbrev pub instance_words : {Shown : Type 0} → ℕ → EntryOf Shown → List (List ℕ)
instance_words number entry = codes "instance" ∷ decimal number ∷ map event_id_text entry.events

-- how many entries a property has, or that there are too many
abbrev pub count_word : {Shown : Type 0} → PropertyBodyOf Shown → List ℕ
count_word TooMany = codes "toomany"
count_word (Entries entries) = decimal (length entries)

-- the shared steps, which format 2 tells
abbrev pub shared_lines : ℕ → List Step → List (List (List ℕ))
shared_lines format shared =
    if format == 2 then (codes "shared" ∷ decimal (length shared) ∷ []) ∷ flat_map step_lines shared else []

-- how many entries are found, impossible and undecided
abbrev pub summary_words : {Shown : Type 0} → List (EntryOf Shown) → List (List ℕ)
summary_words entries =
    codes "summary" ∷ decimal (count_of is_found entries) ∷ decimal (count_of is_impossible entries) ∷ decimal (count_of is_undecided entries) ∷ []

module _ {Shown : Type 0} (shown_lines : Shown → List (List (List ℕ))) where
  -- what is shown, a certificate, or the worker and the entries of its log that it learned in vain
  abbrev pub answer_lines_of : AnswerOf Shown → List (List (List ℕ))
  answer_lines_of (Found shown) = shown_lines shown
  answer_lines_of (Impossible certificate) =
      (codes "impossible" ∷ decimal (length certificate.steps) ∷ []) ∷ flat_map step_lines certificate.steps
  answer_lines_of (Undecided worker from to) = (codes "undecided" ∷ decimal worker ∷ decimal from ∷ decimal to ∷ []) ∷ []

  -- entries, numbered from this number on
  abbrev pub entries_lines_of : ℕ → List (EntryOf Shown) → List (List (List ℕ))
  entries_lines_of number [] = []
  entries_lines_of number (entry ∷ entries) =
      (instance_words number entry ∷ answer_lines_of entry.answer) ++ entries_lines_of (number + 1) entries

  -- what is told of a property: its name and how many entries it has, then the entries
  abbrev pub property_lines_of : PropertyRecordOf Shown → List (List (List ℕ))
  property_lines_of property =
      (codes "property" ∷ property.name ∷ count_word property.body ∷ []) ∷ entries_lines_of 0 (entries_in property.body)

  -- what is told of a window with these shared steps
  abbrev pub window_body_lines_of : ℕ → List Step → WindowBodyOf Shown → List (List (List ℕ))
  window_body_lines_of format shared (TooLarge events clauses) = (codes "toolarge" ∷ decimal events ∷ decimal clauses ∷ []) ∷ []
  window_body_lines_of format shared (Answers properties) = shared_lines format shared ++ flat_map property_lines_of properties

  -- what is told of a window; its workers' records are not
  abbrev pub window_lines_of : ℕ → WindowRecordOf Shown → List (List (List ℕ))
  window_lines_of format window = (codes "window" ∷ decimal window.number ∷ []) ∷ window_body_lines_of format window.shared window.body

-- how many events a schedule has, then the events
abbrev pub schedule_lines : Schedule → List (List (List ℕ))
schedule_lines schedule = (codes "found" ∷ decimal (length schedule.events) ∷ []) ∷ in_lines (map event_id_text schedule.events)

-- the same where a schedule shows that an instance is possible
abbrev pub answer_lines : Answer → List (List (List ℕ))
answer_lines = answer_lines_of schedule_lines

abbrev pub entries_lines : ℕ → List Entry → List (List (List ℕ))
entries_lines = entries_lines_of schedule_lines

abbrev pub property_lines : PropertyRecord → List (List (List ℕ))
property_lines = property_lines_of schedule_lines

abbrev pub window_body_lines : ℕ → List Step → WindowBody → List (List (List ℕ))
window_body_lines = window_body_lines_of schedule_lines

abbrev pub window_lines : ℕ → WindowRecord → List (List (List ℕ))
window_lines = window_lines_of schedule_lines

-- the lines of a report
abbrev pub report_lines : ReportForm → List (List (List ℕ))
report_lines report =
    (codes "gpredict" ∷ decimal report.format ∷ []) ∷ (codes "budget" ∷ decimal report.budget ∷ [])
    ∷ (flat_map (window_lines report.format) report.windows ++ summary_words (entries_of report.windows) ∷ [])
