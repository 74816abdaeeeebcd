-- The status of a report.
use Rattle.std.specs.Prelude.{ℕ, if◌then◌else◌}
use Rattle.gp_report.specs.Entries.{any_found, entries_of}
use Rattle.gp_notified.specs.declared.report.NotifyReport.{NotifyReport}

-- 1 exactly where some entry is found
abbrev pub notified_status : NotifyReport → ℕ
notified_status report = if any_found (entries_of report.windows) then 1 else 0
