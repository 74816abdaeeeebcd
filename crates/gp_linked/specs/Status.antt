-- The status of a report.
use Rattle.std.specs.Prelude.{ℕ, if◌then◌else◌}
use Rattle.std.specs.List.{list_all}
use Rattle.gp_linked.specs.declared.answer.LinkReport.{LinkReport}
use Rattle.gp_linked.specs.Kinds.{is_linked}

-- 0 where all windows are linked, else 1
abbrev pub links_status : LinkReport → ℕ
links_status report = if list_all is_linked report.links then 0 else 1
