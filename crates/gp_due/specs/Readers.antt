-- The fault of each reader says something of the files: none is want of memory, and none a fault of the folder.
use Rattle.std.specs.Prelude.{ℕ, List}
use Rattle.gp_outside.specs.Folders.{File}
use Rattle.gp_text.specs.Lines.{lines_of}
use Rattle.gp_trace.specs.Walk.{trace_of}
use Rattle.gp_window.specs.declared.file_name.FileName.{FileName}
use Rattle.gp_window.specs.declared.schedule.EventId.{EventId}
use Rattle.gp_window.specs.Contents.{content_of}
use Rattle.gp_window.specs.Recording.{recording_of}
use Rattle.gp_window.specs.WindowForm.{WindowForm}
use Rattle.gp_instance.specs.Instances.{due_instances}
use Rattle.gp_property.specs.PropertyForm.{PropertyForm}
use Rattle.gp_property.specs.Reading.{properties_of}
use Rattle.gp_replay.specs.Feasible.{end_of}
use Rattle.gp_replay.specs.Schedule.{schedule_of_text}
use Rattle.gp_report.specs.Reading.{report_of}
use Rattle.gp_shard.specs.Reading.{shard_of_text}
use Rattle.gp_due.specs.Saying.{ContentSays, InstancesSays, OnlySays, PropertySays, RecordingSays, ReplaySays, ReportSays, ScheduleSays, ShardSays, TextSays, TraceSays}

-- where a text is no lines
abbrev pub LinesWantNoMemory : Type 0
LinesWantNoMemory = (bytes : List ℕ) → OnlySays TextSays (lines_of bytes)

-- where a text is no trace of its thread
abbrev pub TracesWantNoMemory : Type 0
TracesWantNoMemory = (format thread marks : ℕ) (bytes : List ℕ) → OnlySays TraceSays (trace_of format thread marks bytes)

-- where the bytes of a file are not told
abbrev pub ContentsWantNoMemory : Type 0
ContentsWantNoMemory = (files : List File) (folder : List ℕ) (file : FileName) → OnlySays ContentSays (content_of files folder file)

-- where the files of a folder are no recording
abbrev pub RecordingsWantNoMemory : Type 0
RecordingsWantNoMemory = (files : List File) (folder : List ℕ) → OnlySays RecordingSays (recording_of files folder)

-- where a text is no schedule
abbrev pub SchedulesWantNoMemory : Type 0
SchedulesWantNoMemory = (epochs : ℕ) (bytes : List ℕ) → OnlySays ScheduleSays (schedule_of_text epochs bytes)

-- where a schedule is not replayed to its end
abbrev pub ReplaysWantNoMemory : Type 0
ReplaysWantNoMemory = (window : WindowForm) (ids : List EventId) → OnlySays ReplaySays (end_of window ids)

-- where a text is no file of properties
abbrev pub PropertiesWantNoMemory : Type 0
PropertiesWantNoMemory = (bytes : List ℕ) → OnlySays PropertySays (properties_of bytes)

-- where the instances of a property in a window are not listed
abbrev pub InstancesWantNoMemory : Type 0
InstancesWantNoMemory = (window : WindowForm) (property : PropertyForm) (number : ℕ) → OnlySays InstancesSays (due_instances window property number)

-- where a text is no report
abbrev pub ReportsWantNoMemory : Type 0
ReportsWantNoMemory = (bytes : List ℕ) → OnlySays ReportSays (report_of bytes)

-- where a text does not say which part a folder has
abbrev pub PartsWantNoMemory : Type 0
PartsWantNoMemory = (bytes : List ℕ) → OnlySays ShardSays (shard_of_text bytes)
