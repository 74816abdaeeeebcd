-- Faults that say something of the files: neither want of memory nor a fault of the folder.
use Rattle.std.specs.Prelude.{IfErr, Result}
use Rattle.gp_text.specs.declared.lines.TextFault.{TextFault}
use Rattle.gp_text.specs.declared.lines.TextFault.TheVariants as text
use Rattle.gp_trace.specs.declared.fault.TraceFault.{TraceFault}
use Rattle.gp_trace.specs.declared.fault.TraceFault.TheVariants as trace
use Rattle.gp_window.specs.declared.content.ContentFault.{ContentFault}
use Rattle.gp_window.specs.declared.content.ContentFault.TheVariants as content
use Rattle.gp_window.specs.declared.manifest.ManifestFault.{ManifestFault}
use Rattle.gp_window.specs.declared.manifest.ManifestFault.TheVariants as manifest
use Rattle.gp_window.specs.declared.fault.RecordingFault.{RecordingFault}
use Rattle.gp_window.specs.declared.fault.RecordingFault.TheVariants as recording
use Rattle.gp_instance.specs.declared.instance.InstancesFault.{InstancesFault}
use Rattle.gp_instance.specs.declared.instance.InstancesFault.TheVariants as instances
use Rattle.gp_property.specs.declared.fault.PropertyFault.{PropertyFault}
use Rattle.gp_property.specs.declared.fault.PropertyFault.TheVariants as property
use Rattle.gp_replay.specs.declared.schedule.ScheduleFault.{ScheduleFault}
use Rattle.gp_replay.specs.declared.schedule.ScheduleFault.TheVariants as schedule
use Rattle.gp_replay.specs.declared.running.ReplayFault.{ReplayFault}
use Rattle.gp_replay.specs.declared.running.ReplayFault.TheVariants as replay
use Rattle.gp_report.specs.declared.fault.ReportFault.{ReportFault}
use Rattle.gp_report.specs.declared.fault.ReportFault.TheVariants as report
use Rattle.gp_shard.specs.declared.reading.ShardFault.{ShardFault}
use Rattle.gp_shard.specs.declared.reading.ShardFault.TheVariants as shard

-- the fault that a result tells, if it tells one, says something
pub record OnlySays {A E : Type 0} (Says : E → Type 0) (result : Result A E) : Type 0 where
  pub fault : IfErr result Says

-- a fault of a text
abbrev pub TextSays : TextFault → Type 0
TextSays (text.NotAscii line) = Unit {0}
TextSays (text.LongLine line) = Unit {0}
TextSays (text.NoLastNewline line) = Unit {0}
TextSays text.Memory = ⊥

-- a fault of a trace
abbrev pub TraceSays : TraceFault → Type 0
TraceSays (trace.Text fault) = TextSays fault
TraceSays (trace.AfterExit line) = Unit {0}
TraceSays (trace.BadWord line) = Unit {0}
TraceSays (trace.NameSelf line) = Unit {0}
TraceSays (trace.ReleaseUnheld line) = Unit {0}
TraceSays (trace.AcquireHeld line) = Unit {0}
TraceSays (trace.RegionUnmatched line) = Unit {0}
TraceSays (trace.MarkCount line) = Unit {0}
TraceSays trace.Memory = ⊥

-- a fault of a file of the folder
abbrev pub ContentSays : ContentFault → Type 0
ContentSays (content.Absent name) = Unit {0}
ContentSays (content.TooLong name) = Unit {0}
ContentSays content.ReadFailed = ⊥
ContentSays content.Memory = ⊥

-- a fault of a manifest
abbrev pub ManifestSays : ManifestFault → Type 0
ManifestSays (manifest.Text fault) = TextSays fault
ManifestSays (manifest.Line line) = Unit {0}
ManifestSays manifest.Memory = ⊥

-- a fault of a recording
abbrev pub RecordingSays : RecordingFault → Type 0
RecordingSays (recording.Absent name) = Unit {0}
RecordingSays (recording.TooLong name) = Unit {0}
RecordingSays recording.ReadFailed = ⊥
RecordingSays (recording.ManifestText fault) = TextSays fault
RecordingSays (recording.ManifestLine line) = Unit {0}
RecordingSays (recording.Trace thread fault) = TraceSays fault
RecordingSays (recording.UnknownThread thread) = Unit {0}
RecordingSays (recording.StartsRoot thread) = Unit {0}
RecordingSays (recording.TwoStarts thread) = Unit {0}
RecordingSays (recording.TwoHolders lock window) = Unit {0}
RecordingSays recording.Memory = ⊥

-- a fault of a schedule
abbrev pub ScheduleSays : ScheduleFault → Type 0
ScheduleSays (schedule.Text fault) = TextSays fault
ScheduleSays (schedule.BadLine line) = Unit {0}
ScheduleSays schedule.Memory = ⊥

-- why a schedule is not replayed to its end
abbrev pub ReplaySays : ReplayFault → Type 0
ReplaySays (replay.Stuck place rule) = Unit {0}
ReplaySays replay.Memory = ⊥

-- a fault of a file of properties
abbrev pub PropertySays : PropertyFault → Type 0
PropertySays (property.Text fault) = TextSays fault
PropertySays (property.Empty line) = Unit {0}
PropertySays (property.BadWord line) = Unit {0}
PropertySays (property.RepeatedName line) = Unit {0}
PropertySays (property.TooManyAtoms line) = Unit {0}
PropertySays (property.UnknownEvent line) = Unit {0}
PropertySays (property.RegionUse line) = Unit {0}
PropertySays property.Memory = ⊥

-- why the instances of a property are not listed
abbrev pub InstancesSays : InstancesFault → Type 0
InstancesSays instances.TooMany = Unit {0}
InstancesSays instances.Memory = ⊥

-- a fault of a report
abbrev pub ReportSays : ReportFault → Type 0
ReportSays (report.Text fault) = TextSays fault
ReportSays (report.Rule line rule) = Unit {0}
ReportSays report.Memory = ⊥

-- a fault of a text that is to say which part of a recording a folder has
abbrev pub ShardSays : ShardFault → Type 0
ShardSays (shard.Text fault) = TextSays fault
ShardSays (shard.Line line) = Unit {0}
ShardSays shard.Memory = ⊥
