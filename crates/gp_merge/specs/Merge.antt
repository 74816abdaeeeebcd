-- The report of a whole recording out of the reports of its parts.
use Rattle.std.specs.Prelude.{ℕ, ◌≡◌, ◌+◌, ◌-◌, ◌≤◌, List, [], ◌∷◌, All, drop, flat_map, length, map}
use Rattle.gp_report.specs.Records.{WindowRecord}
use Rattle.gp_report.specs.Report.{IsReport}
use Rattle.gp_report.specs.ReportForm.{ReportForm}
use Rattle.gp_merge.specs.declared.merging.PartReport.{PartReport}

-- what is told of a window behind the stage, under its number in the whole recording, where so many windows are before the part
abbrev pub renumbered : ℕ → WindowRecord → WindowRecord
renumbered before told = record told { number = before + (told.number - 1) }

-- what is told of the windows of a part: that of the stage is left out
abbrev pub part_windows : PartReport → List WindowRecord
part_windows one = map (renumbered one.part.before) (drop 1 one.report.windows)

-- the report of the whole: part after part
abbrev pub merged : ℕ → ℕ → List PartReport → ReportForm
merged format budget parts = record { format = format; budget = budget; windows = flat_map part_windows parts }

-- parts follow one another, from behind so many windows up to so many
abbrev pub AreInRow : ℕ → List PartReport → ℕ → Type 0
AreInRow before [] last = before ≡ last
AreInRow before (one ∷ parts) last = (one.part.before ≡ before) × AreInRow (before + one.part.count) parts last

-- a part's report of this format and budget, which a text can tell, has a window for each of the part and one for the stage
pub record IsPartReport (format budget : ℕ) (one : PartReport) : Type 0 where
  pub report : IsReport one.report
  pub same_format : one.report.format ≡ format
  pub same_budget : one.report.budget ≡ budget
  pub windows : length one.report.windows ≡ one.part.count + 1

-- there are parts, in a row from the first window to the last, of which there are no more than a recording may have; each has its report
pub record AreParts (format budget : ℕ) (parts : List PartReport) : Type 0 where
  pub last : ℕ
  pub row : AreInRow 0 parts last
  pub some : 1 ≤ length parts
  pub few : last ≤ 4096
  pub reports : All (IsPartReport format budget) parts
