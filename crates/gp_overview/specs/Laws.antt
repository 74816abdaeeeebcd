-- What is true of the table and of what a page shows of it.
use Rattle.std.specs.Prelude.{◌≡◌, List, sum_by}
use Rattle.gp_base.specs.ListLaws.{Pairwise}
use Rattle.gp_checker.specs.declared.failure.Checked.{Checked}
use Rattle.gp_checker.specs.Accepted.{IsAccepted}
use Rattle.gp_drawing.specs.Markup.{HasOwnMarkup}
use Rattle.gp_property.specs.PropertyForm.{PropertyForm}
use Rattle.gp_report.specs.Entries.{count_of, entries_of, is_found, is_impossible, is_undecided}
use Rattle.gp_report.specs.Records.{WindowRecord}
use Rattle.gp_report.specs.ReportForm.{ReportForm}
use Rattle.gp_window.specs.RecordingForm.{RecordingForm}
use Rattle.gp_overview.specs.Counts.{counts_of, total_of}
use Rattle.gp_overview.specs.Page.{table_part, verdict_part}

-- no two properties have one name
abbrev pub HaveOwnNames : List PropertyForm → Type 0
HaveOwnNames properties = Pairwise (λ (one other : PropertyForm). one.name ≡ other.name → ⊥) properties

-- the rows of the properties add up to the row of all: always to the numbers of the report's summary, and so for a report that is
-- accepted, of properties with names of their own
pub record TablesAddUp : Type 0 where
  pub found_all : (windows : List WindowRecord) → (total_of windows).found ≡ count_of is_found (entries_of windows)
  pub impossible_all : (windows : List WindowRecord) → (total_of windows).impossible ≡ count_of is_impossible (entries_of windows)
  pub undecided_all : (windows : List WindowRecord) → (total_of windows).undecided ≡ count_of is_undecided (entries_of windows)
  pub found : (recording : RecordingForm) (properties : List PropertyForm) (report : ReportForm) → HaveOwnNames properties → IsAccepted recording properties report
      → sum_by (λ (property : PropertyForm). (counts_of report.windows property.name).found) properties ≡ (total_of report.windows).found
  pub impossible : (recording : RecordingForm) (properties : List PropertyForm) (report : ReportForm) → HaveOwnNames properties → IsAccepted recording properties report
      → sum_by (λ (property : PropertyForm). (counts_of report.windows property.name).impossible) properties ≡ (total_of report.windows).impossible
  pub undecided : (recording : RecordingForm) (properties : List PropertyForm) (report : ReportForm) → HaveOwnNames properties → IsAccepted recording properties report
      → sum_by (λ (property : PropertyForm). (counts_of report.windows property.name).undecided) properties ≡ (total_of report.windows).undecided
  pub too_many : (recording : RecordingForm) (properties : List PropertyForm) (report : ReportForm) → HaveOwnNames properties → IsAccepted recording properties report
      → sum_by (λ (property : PropertyForm). (counts_of report.windows property.name).too_many) properties ≡ (total_of report.windows).too_many

-- nothing of what is told is read as markup
pub record OverviewsHaveOwnMarkup : Type 0 where
  pub verdict : (windows : List WindowRecord) (checked : Checked) → HasOwnMarkup (verdict_part windows checked)
  pub table : (properties : List PropertyForm) (windows : List WindowRecord) → HasOwnMarkup (table_part properties windows)
