-- What task compact tells.
use Rattle.gp_report.specs.ReportForm.{ReportForm}
use Rattle.gp_predict.specs.declared.compacting.CompactForm.{CompactForm}
use Rattle.gp_predict.specs.Telling.{report_text}
use Rattle.gp_predict.specs.Told.{Nothing, Told}

-- the compact form of a report, which is not kept, since no analysis was made
abbrev pub of_compact : ReportForm → Told
of_compact report = record { status = 0; text = report_text report; kept = Nothing }

-- what the result of task compact tells
abbrev pub of_compact_form : CompactForm → Told
of_compact_form form = of_compact form.report
