-- What a text and a report tell.
use Rattle.std.specs.Prelude.{ℕ, List, flat_map, if◌then◌else◌}
use Rattle.gp_report.specs.Entries.{any_found, entries_of}
use Rattle.gp_report.specs.Printed.{report_lines}
use Rattle.gp_report.specs.ReportForm.{ReportForm}
use Rattle.gp_text.specs.Spelling.{spelling}
use Rattle.gp_predict.specs.declared.reply.Reply.{Reply}
use Rattle.gp_predict.specs.declared.results.Answer.{Answer}
use Rattle.gp_predict.specs.Told.{Kept, Nothing, Told}

-- the whole text of an answer
abbrev pub text_of : Reply → List ℕ
text_of answer = flat_map (λ line. line) answer.lines

-- the text of a report
abbrev pub report_text : ReportForm → List ℕ
report_text report = spelling (report_lines report)

-- the status of a report: 1 exactly where some entry is found
abbrev pub report_status : ReportForm → ℕ
report_status report = if any_found (entries_of report.windows) then 1 else 0

-- what a report of answers tells, which is kept so: its text, and that it has an entry found or none
abbrev pub of_answers : (ReportForm → Kept) → ReportForm → Told
of_answers keep report = record { status = report_status report; text = report_text report; kept = keep report }

-- a text with its status
abbrev pub of_reply : Reply → Told
of_reply reply = record { status = reply.status; text = text_of reply; kept = Nothing }

-- what the result of a task tells whose text is made before it is written
abbrev pub of_answer : Answer → Told
of_answer answer = of_reply answer.reply
