-- The texts by which input files are refused: `refused FILE LINE RULE`, or without a line; and that of too much work.
use Rattle.std.specs.Prelude.{ℕ, ◌++◌, List, [], ◌∷◌, Option, None, Some, Result, Ok, Err, codes, decimal}
use Rattle.gp_text.specs.declared.lines.TextFault.{TextFault}
use Rattle.gp_text.specs.declared.lines.TextFault.TheVariants as text
use Rattle.gp_trace.specs.declared.fault.TraceFault.{TraceFault}
use Rattle.gp_trace.specs.declared.fault.TraceFault.TheVariants as trace
use Rattle.gp_window.specs.declared.content.ContentFault.{ContentFault}
use Rattle.gp_window.specs.declared.content.ContentFault.TheVariants as content
use Rattle.gp_window.specs.declared.file_name.FileName.{FileName}
use Rattle.gp_window.specs.declared.file_name.FileName.TheVariants as file
use Rattle.gp_window.specs.FileNames.{name_of}
use Rattle.gp_window.specs.declared.fault.RecordingFault.{RecordingFault}
use Rattle.gp_window.specs.declared.fault.RecordingFault.TheVariants as recording
use Rattle.gp_property.specs.declared.fault.PropertyFault.{PropertyFault}
use Rattle.gp_property.specs.declared.fault.PropertyFault.TheVariants as property
use Rattle.gp_replay.specs.declared.schedule.ScheduleFault.{ScheduleFault}
use Rattle.gp_replay.specs.declared.schedule.ScheduleFault.TheVariants as schedule
use Rattle.gp_report.specs.declared.fault.ReportFault.{ReportFault}
use Rattle.gp_report.specs.declared.fault.ReportFault.TheVariants as report
use Rattle.gp_report.specs.declared.fault.ReportRule.{ReportRule}
use Rattle.gp_report.specs.declared.fault.ReportRule.TheVariants as rule
use Rattle.gp_predict.specs.declared.reply.Reply.{Reply}

-- a status with a text of one line
abbrev pub one_line : ℕ → List ℕ → Reply
one_line status text = record { status = status; lines = (text ++ codes "\n") ∷ [] }

-- no text: the definitions ask for no memory and for no folder, so this answer is never due
abbrev pub never_due : Reply
never_due = record { status = 6; lines = [] }

-- a file that is refused as a whole
abbrev pub refused_as : FileName → List ℕ → Reply
refused_as name rule = one_line 3 (codes "refused " ++ name_of name ++ codes " " ++ rule)

-- a file that is refused at a line
abbrev pub refused_at : FileName → ℕ → List ℕ → Reply
refused_at name line rule = one_line 3 (codes "refused " ++ name_of name ++ codes " " ++ decimal line ++ codes " " ++ rule)

-- a recording whose files do not fit together, told with a thread
abbrev pub recording_refused : List ℕ → ℕ → Reply
recording_refused rule thread = one_line 3 (codes "refused recording " ++ rule ++ codes " " ++ decimal thread)

-- a recording in which two threads hold this lock over the mark before this window
abbrev pub two_holders : List ℕ → ℕ → Reply
two_holders lock window = one_line 3 (codes "refused recording twoholders " ++ lock ++ codes " " ++ decimal window)

-- too much work: so many questions with this budget each
abbrev pub limit_refused : ℕ → ℕ → Reply
limit_refused total budget = one_line 7 (codes "limit " ++ decimal total ++ codes " " ++ decimal budget)

-- what is asked for, or the refusal of so many questions, where with this budget each they are too many
abbrev pub unless_too_much : {A : Type 0} → A → ℕ → Option ℕ → Result A Reply
unless_too_much asked budget None = Ok asked
unless_too_much asked budget (Some total) = Err (limit_refused total budget)

-- a file whose text has no lines
abbrev pub text_refusal : FileName → TextFault → Reply
text_refusal name (text.NotAscii line) = refused_at name line (codes "notascii")
text_refusal name (text.LongLine line) = refused_at name line (codes "longline")
text_refusal name (text.NoLastNewline line) = refused_at name line (codes "nolastnewline")
text_refusal name text.Memory = never_due

-- the trace of this thread, which breaks a rule
abbrev pub trace_refusal : ℕ → TraceFault → Reply
trace_refusal thread (trace.Text fault) = text_refusal (file.Trace thread) fault
trace_refusal thread (trace.AfterExit line) = refused_at (file.Trace thread) line (codes "afterexit")
trace_refusal thread (trace.BadWord line) = refused_at (file.Trace thread) line (codes "badword")
trace_refusal thread (trace.NameSelf line) = refused_at (file.Trace thread) line (codes "nameself")
trace_refusal thread (trace.ReleaseUnheld line) = refused_at (file.Trace thread) line (codes "releaseunheld")
trace_refusal thread (trace.AcquireHeld line) = refused_at (file.Trace thread) line (codes "acquireheld")
trace_refusal thread (trace.RegionUnmatched line) = refused_at (file.Trace thread) line (codes "regionunmatched")
trace_refusal thread (trace.MarkCount line) = refused_at (file.Trace thread) line (codes "markcount")
trace_refusal thread trace.Memory = never_due

-- a file whose bytes are not told
abbrev pub content_refusal : ContentFault → Reply
content_refusal (content.Absent name) = refused_as name (codes "absent")
content_refusal (content.TooLong name) = refused_as name (codes "toolong")
content_refusal content.ReadFailed = never_due
content_refusal content.Memory = never_due

-- files that are no recording
abbrev pub recording_refusal : RecordingFault → Reply
recording_refusal (recording.Absent name) = refused_as name (codes "absent")
recording_refusal (recording.TooLong name) = refused_as name (codes "toolong")
recording_refusal recording.ReadFailed = never_due
recording_refusal (recording.ManifestText fault) = text_refusal file.Manifest fault
recording_refusal (recording.ManifestLine line) = refused_at file.Manifest line (codes "badline")
recording_refusal (recording.Trace thread fault) = trace_refusal thread fault
recording_refusal (recording.UnknownThread thread) = recording_refused (codes "unknownthread") thread
recording_refusal (recording.StartsRoot thread) = recording_refused (codes "startsroot") thread
recording_refusal (recording.TwoStarts thread) = recording_refused (codes "twostarts") thread
recording_refusal (recording.TwoHolders lock window) = two_holders lock window
recording_refusal recording.Memory = never_due

-- a text that is no schedule
abbrev pub schedule_refusal : ScheduleFault → Reply
schedule_refusal (schedule.Text fault) = text_refusal file.Schedule fault
schedule_refusal (schedule.BadLine line) = refused_at file.Schedule line (codes "badline")
schedule_refusal schedule.Memory = never_due

-- a text that is no file of properties
abbrev pub properties_refusal : PropertyFault → Reply
properties_refusal (property.Text fault) = text_refusal file.Properties fault
properties_refusal (property.Empty line) = refused_at file.Properties line (codes "empty")
properties_refusal (property.BadWord line) = refused_at file.Properties line (codes "badword")
properties_refusal (property.RepeatedName line) = refused_at file.Properties line (codes "repeatedname")
properties_refusal (property.TooManyAtoms line) = refused_at file.Properties line (codes "toomanyatoms")
properties_refusal (property.UnknownEvent line) = refused_at file.Properties line (codes "unknownevent")
properties_refusal (property.RegionUse line) = refused_at file.Properties line (codes "regionuse")
properties_refusal property.Memory = never_due

-- the word by which a rule of reports is told
abbrev pub rule_word : ReportRule → List ℕ
rule_word rule.Form = codes "form"
rule_word rule.Order = codes "order"
rule_word rule.Length = codes "length"
rule_word rule.Clause = codes "clause"
rule_word rule.End = codes "end"
rule_word rule.After = codes "after"

-- a text that is no report
abbrev pub report_refusal : ReportFault → Reply
report_refusal (report.Text fault) = text_refusal file.Report fault
report_refusal (report.Rule line rule) = refused_at file.Report line (rule_word rule)
report_refusal report.Memory = never_due
