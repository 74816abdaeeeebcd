-- The table and the verdicts of a small report, written by hand.
use Rattle.std.specs.Prelude.{◌≡◌, ℕ, List, [], ◌∷◌, ◌++◌, codes}
use Rattle.gp_checker.specs.declared.failure.Checked.{Checked}
use Rattle.gp_checker.specs.declared.failure.Checked.TheVariants.{Accepted, Rejected}
use Rattle.gp_checker.specs.declared.failure.Reason.{Reason}
use Rattle.gp_checker.specs.declared.failure.Reason.TheVariants.{WindowCount, WrongSize, WrongProperty, WrongEvents, Stuck, Unmatched, BadStep, Unrefuted, WrongBudget, BadSharedStep}
use Rattle.gp_property.specs.PropertyForm.{PropertyForm}
use Rattle.gp_report.specs.declared.record.AnswerOf.TheVariants.{Found, Impossible, Undecided}
use Rattle.gp_report.specs.declared.record.PropertyBodyOf.TheVariants.{TooMany, Entries}
use Rattle.gp_report.specs.declared.record.WindowBodyOf.TheVariants.{TooLarge, Answers}
use Rattle.gp_report.specs.Records.{Answer, Entry, PropertyBody, PropertyRecord, WindowBody, WindowRecord}
use Rattle.gp_text.specs.Spelling.{spelling}
use Rattle.gp_overview.specs.declared.counts.Counts.{Counts}
use Rattle.gp_overview.specs.Counts.{counts_of, total_of}
use Rattle.gp_overview.specs.Page.{body_cell, table_part, verdict_part}
use Rattle.gp_overview.specs.Table.{table_text}
use Rattle.gp_overview.specs.Verdict.{verdict_words}

-- an entry with an answer, whatever its events
abbrev entry : Answer → Entry
entry answer = record { events = []; answer = answer }

abbrev found : Entry
found = entry (Found (record { events = [] }))

abbrev impossible : Entry
impossible = entry (Impossible (record { steps = [] }))

abbrev undecided : Entry
undecided = entry (Undecided 1 0 10)

abbrev told_of : List ℕ → PropertyBody → PropertyRecord
told_of name body = record { name = name; body = body }

abbrev window : ℕ → WindowBody → WindowRecord
window number body = record { number = number; shared = []; body = body; records = [] }

-- a window with two properties, of which the second has too many instances, and one that is too large
abbrev pub windows : List WindowRecord
windows =
    window 1 (Answers (
    told_of (codes "swap") (Entries (impossible ∷ found ∷ undecided ∷ undecided ∷ impossible ∷ undecided ∷ []))
    ∷ told_of (codes "late") TooMany ∷ []))
    ∷ window 2 (TooLarge 3000 0) ∷ []

abbrev property : List ℕ → PropertyForm
property name = record { name = name; events = []; pattern = [] }

-- the properties of the report
abbrev pub properties : List PropertyForm
properties = property (codes "swap") ∷ property (codes "late") ∷ []

abbrev counts : ℕ → ℕ → ℕ → ℕ → ℕ → Counts
counts found impossible undecided too_many too_large =
    record { found = found; impossible = impossible; undecided = undecided; too_many = too_many; too_large = too_large }

-- the verdict as a line
abbrev pub verdict_told : Checked → List ℕ
verdict_told checked = spelling (verdict_words windows checked ∷ [])

-- the verdict on a report that is rejected by this reason
abbrev pub rejected_told : Reason → List ℕ
rejected_told reason = verdict_told (Rejected (record { window = 2; property = 3; instance = 4; reason = reason; place = 5 }))

pub record ExamplesHold : Type 0 where
  pub swap : counts_of windows (codes "swap") ≡ counts 1 2 3 0 1
  pub late : counts_of windows (codes "late") ≡ counts 0 0 0 1 1
  -- a property of which nothing is told
  pub other : counts_of windows (codes "lat") ≡ counts 0 0 0 0 1
  pub all : total_of windows ≡ counts 1 2 3 1 1
  pub table : table_text properties windows ≡
      codes "property                              found impossible  undecided   too many  too large\n"
      ++ codes "swap                                      1          2          3          0          1\n"
      ++ codes "late                                      0          0          0          1          1\n"
      ++ codes "all                                       1          2          3          1          1\n"
  pub page_table : table_part properties windows ≡
      codes "<table>\n"
      ++ codes "<tr><th>property</th><th>found</th><th>impossible</th><th>undecided</th><th>too many</th><th>too large</th></tr>\n"
      ++ codes "<tr><td>swap</td><td>1</td><td>2</td><td>3</td><td>0</td><td>1</td></tr>\n"
      ++ codes "<tr><td>late</td><td>0</td><td>0</td><td>0</td><td>1</td><td>1</td></tr>\n"
      ++ codes "<tr><td>all</td><td>1</td><td>2</td><td>3</td><td>1</td><td>1</td></tr>\n"
      ++ codes "</table>\n"
  -- a name that could be read as markup, were it one
  pub escaped_name : body_cell (codes "a<b>") ≡ codes "<td>a&lt;b&gt;</td>"
  pub accepted : verdict_told Accepted ≡ codes "the report is accepted, answers: 6\n"
  pub page_accepted : verdict_part windows Accepted ≡ codes "<p>the report is accepted, answers: 6</p>\n"
  -- one for each reason, at the place at which it is told
  pub window_count : rejected_told WindowCount ≡
      codes "the report is rejected at window 2 since the report has not as many windows as the recording\n"
  pub wrong_size : rejected_told WrongSize ≡
      codes "the report is rejected at window 2 since it is told as too large and is not, or the reverse, or with other numbers\n"
  pub wrong_property : rejected_told WrongProperty ≡
      codes "the report is rejected at window 2 property 3 since it is missing or surplus, has another name, or has not an entry for each of its instances\n"
  pub wrong_events : rejected_told WrongEvents ≡
      codes "the report is rejected at window 2 property 3 instance 4 since its events are not those of the instance\n"
  pub stuck : rejected_told Stuck ≡
      codes "the report is rejected at window 2 property 3 instance 4 since its schedule cannot go on at place 5\n"
  pub unmatched : rejected_told Unmatched ≡
      codes "the report is rejected at window 2 property 3 instance 4 since its schedule can happen and does not show it\n"
  pub bad_step : rejected_told BadStep ≡
      codes "the report is rejected at window 2 property 3 instance 4 since its certificate does not follow at step 5\n"
  pub unrefuted : rejected_told Unrefuted ≡
      codes "the report is rejected at window 2 property 3 instance 4 since its certificate ends in no contradiction\n"
  pub wrong_budget : rejected_told WrongBudget ≡
      codes "the report is rejected at window 2 property 3 instance 4 since it is undecided with another budget than the report has\n"
  pub bad_shared_step : rejected_told BadSharedStep ≡
      codes "the report is rejected at window 2 since its shared steps do not follow at step 5\n"
