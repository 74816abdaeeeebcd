-- Why something is refused, and how that is told.
use Rattle.std.specs.Prelude.{Bool, true, false, Result, Ok, Err}
use Rattle.gp_window.specs.declared.content.ContentFault.TheVariants as content
use Rattle.gp_window.specs.declared.fault.RecordingFault.{RecordingFault}
use Rattle.gp_window.specs.declared.fault.RecordingFault.TheVariants as recording
use Rattle.gp_predict.specs.declared.refusal.Refusal.{Refusal}
use Rattle.gp_predict.specs.declared.refusal.Refusal.TheVariants as refusal
use Rattle.gp_predict.specs.declared.reply.Reply.{Reply}
use Rattle.gp_predict.specs.declared.stop.Stop.{Stop}
use Rattle.gp_predict.specs.declared.stop.Stop.TheVariants.{Refused, FolderFailed, Memory}
use Rattle.gp_predict.specs.Refusal.{content_refusal, limit_refused, properties_refusal, recording_refusal, report_refusal, schedule_refusal}

-- the status and the text of a refusal
abbrev pub reply_of : Refusal → Reply
reply_of (refusal.Content fault) = content_refusal fault
reply_of (refusal.Recording fault) = recording_refusal fault
reply_of (refusal.Schedule fault) = schedule_refusal fault
reply_of (refusal.Properties fault) = properties_refusal fault
reply_of (refusal.Report fault) = report_refusal fault
reply_of (refusal.Limit total budget) = limit_refused total budget

-- whether a refusal says that a file is absent
abbrev pub is_absent : Refusal → Bool
is_absent (refusal.Content (content.Absent name)) = true
is_absent (refusal.Recording (recording.Absent name)) = true
is_absent _ = false

-- whether a refusal says that too much work is asked
abbrev pub is_limit : Refusal → Bool
is_limit (refusal.Limit total budget) = true
is_limit _ = false

-- what a fault of reading a recording stops with
abbrev pub stop_of_recording : RecordingFault → Stop
stop_of_recording recording.ReadFailed = FolderFailed
stop_of_recording recording.Memory = Memory
stop_of_recording fault = Refused (refusal.Recording fault)

-- whether a stage stopped since a file is absent
abbrev pub stops_absent : {A : Type 0} → Result A Stop → Bool
stops_absent (Ok value) = false
stops_absent (Err (Refused why)) = is_absent why
stops_absent (Err FolderFailed) = false
stops_absent (Err Memory) = false

-- whether a stop is that too much work is asked
abbrev pub is_at_limit : Stop → Bool
is_at_limit (Refused why) = is_limit why
is_at_limit FolderFailed = false
is_at_limit Memory = false

-- whether a stage stopped so
abbrev pub stops_at_limit : {A : Type 0} → Result A Stop → Bool
stops_at_limit (Ok value) = false
stops_at_limit (Err stop) = is_at_limit stop
