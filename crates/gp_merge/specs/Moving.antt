-- Where the windows of a part can be moved: each has a number, and its number in the whole recording fits.
use Rattle.std.specs.Prelude.{ℕ, ◌+◌, ◌≤◌, ◌<◌, ◌^◌, drop, length}
use Rattle.std.specs.List.{AllByRecursion}
use Rattle.gp_report.specs.Records.{WindowRecord}
use Rattle.gp_merge.specs.declared.merging.PartReport.{PartReport}

-- a window behind so many
abbrev pub CanMove : ℕ → WindowRecord → Type 0
CanMove before told = (1 ≤ told.number) × (before + told.number < 2 ^ 32)

-- the windows of a part: its report has a stage, and each window behind it can be moved
pub record CanMoveAll (one : PartReport) : Type 0 where
  pub stage : 1 ≤ length one.report.windows
  pub each : AllByRecursion (CanMove one.part.before) (drop 1 one.report.windows)
