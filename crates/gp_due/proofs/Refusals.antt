-- A fault that says something is refused by a text.
use Rattle.std.proofs.Common.{inl, inr, refl, ℕ, Option, Some, None, arith}
use Rattle.gp_text.specs.declared.lines.TextFault.{TextFault}
use Rattle.gp_text.specs.declared.lines.TextFault.TheVariants as text
use Rattle.gp_trace.specs.declared.fault.TraceFault.{TraceFault}
use Rattle.gp_trace.specs.declared.fault.TraceFault.TheVariants as trace
use Rattle.gp_window.specs.declared.content.ContentFault.{ContentFault}
use Rattle.gp_window.specs.declared.content.ContentFault.TheVariants as content
use Rattle.gp_window.specs.declared.file_name.FileName.{FileName}
use Rattle.gp_window.specs.declared.file_name.FileName.TheVariants as file
use Rattle.gp_window.specs.declared.fault.RecordingFault.{RecordingFault}
use Rattle.gp_window.specs.declared.fault.RecordingFault.TheVariants as recording
use Rattle.gp_property.specs.declared.fault.PropertyFault.{PropertyFault}
use Rattle.gp_property.specs.declared.fault.PropertyFault.TheVariants as property
use Rattle.gp_replay.specs.declared.schedule.ScheduleFault.{ScheduleFault}
use Rattle.gp_replay.specs.declared.schedule.ScheduleFault.TheVariants as schedule
use Rattle.gp_report.specs.declared.fault.ReportFault.{ReportFault}
use Rattle.gp_report.specs.declared.fault.ReportFault.TheVariants as report
use Rattle.gp_predict.specs.declared.reply.Reply.{Reply}
use Rattle.gp_predict.specs.Refusal.{content_refusal, properties_refusal, recording_refusal, report_refusal, schedule_refusal, text_refusal, trace_refusal, unless_too_much}
use Rattle.gp_predict.specs.Told.{IsDone}
use Rattle.gp_due.specs.Saying.{ContentSays, OnlySays, PropertySays, RecordingSays, ReportSays, ScheduleSays, TextSays, TraceSays}
use Rattle.gp_due.proofs.Results as of

-- a reply of a run that is done
abbrev pub IsAnswer : Reply → Type 0
IsAnswer reply = IsDone reply.status

pub found : IsDone 0
found = inl (omega arith)

pub stuck : IsDone 1
stuck = inl (omega arith)

pub unread : IsDone 2
unread = inl (omega arith)

pub refused : IsDone 3
refused = inl (omega arith)

pub limited : IsDone 7
limited = inr refl

-- no run is done with the status of want of memory
pub not_done : IsDone 6 → ⊥
not_done (inl least) = omega (arith, least)
not_done (inr seven) = omega (arith, seven)

text_refused : (name : FileName) (fault : TextFault) → TextSays fault → IsAnswer (text_refusal name fault)
text_refused name (text.NotAscii line) says = refused
text_refused name (text.LongLine line) says = refused
text_refused name (text.NoLastNewline line) says = refused
text_refused name text.Memory says = absurd says

trace_refused : (thread : ℕ) (fault : TraceFault) → TraceSays fault → IsAnswer (trace_refusal thread fault)
trace_refused thread (trace.Text fault) says = text_refused (file.Trace thread) fault says
trace_refused thread (trace.AfterExit line) says = refused
trace_refused thread (trace.BadWord line) says = refused
trace_refused thread (trace.NameSelf line) says = refused
trace_refused thread (trace.ReleaseUnheld line) says = refused
trace_refused thread (trace.AcquireHeld line) says = refused
trace_refused thread (trace.RegionUnmatched line) says = refused
trace_refused thread (trace.MarkCount line) says = refused
trace_refused thread trace.Memory says = absurd says

pub content_refused : (fault : ContentFault) → ContentSays fault → IsAnswer (content_refusal fault)
content_refused (content.Absent name) says = refused
content_refused (content.TooLong name) says = refused
content_refused content.ReadFailed says = absurd says
content_refused content.Memory says = absurd says

pub recording_refused : (fault : RecordingFault) → RecordingSays fault → IsAnswer (recording_refusal fault)
recording_refused (recording.Absent name) says = refused
recording_refused (recording.TooLong name) says = refused
recording_refused recording.ReadFailed says = absurd says
recording_refused (recording.ManifestText fault) says = text_refused file.Manifest fault says
recording_refused (recording.ManifestLine line) says = refused
recording_refused (recording.Trace thread fault) says = trace_refused thread fault says
recording_refused (recording.UnknownThread thread) says = refused
recording_refused (recording.StartsRoot thread) says = refused
recording_refused (recording.TwoStarts thread) says = refused
recording_refused (recording.TwoHolders lock window) says = refused
recording_refused recording.Memory says = absurd says

pub schedule_refused : (fault : ScheduleFault) → ScheduleSays fault → IsAnswer (schedule_refusal fault)
schedule_refused (schedule.Text fault) says = text_refused file.Schedule fault says
schedule_refused (schedule.BadLine line) says = refused
schedule_refused schedule.Memory says = absurd says

pub properties_refused : (fault : PropertyFault) → PropertySays fault → IsAnswer (properties_refusal fault)
properties_refused (property.Text fault) says = text_refused file.Properties fault says
properties_refused (property.Empty line) says = refused
properties_refused (property.BadWord line) says = refused
properties_refused (property.RepeatedName line) says = refused
properties_refused (property.TooManyAtoms line) says = refused
properties_refused (property.UnknownEvent line) says = refused
properties_refused (property.RegionUse line) says = refused
properties_refused property.Memory says = absurd says

pub report_refused : (fault : ReportFault) → ReportSays fault → IsAnswer (report_refusal fault)
report_refused (report.Text fault) says = text_refused file.Report fault says
report_refused (report.Rule line rule) says = refused
report_refused report.Memory says = absurd says

pub limit_refused : {A : Type 0} (asked : A) (budget : ℕ) (total : Option ℕ) → OnlySays IsAnswer (unless_too_much asked budget total)
limit_refused asked budget None = of.value
limit_refused asked budget (Some total) = of.fault limited
