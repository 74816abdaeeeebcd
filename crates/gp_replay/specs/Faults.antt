-- How a fault of a text becomes the fault of a schedule.
use Rattle.gp_text.specs.declared.lines.TextFault.{TextFault}
use Rattle.gp_text.specs.declared.lines.TextFault.TheVariants as text
use Rattle.gp_replay.specs.declared.schedule.ScheduleFault.{ScheduleFault}
use Rattle.gp_replay.specs.declared.schedule.ScheduleFault.TheVariants.{Text, Memory}

-- a text without lines is told with its fault; want of memory stays what it is
abbrev pub schedule_from_text : TextFault → ScheduleFault
schedule_from_text (text.NotAscii line) = Text (text.NotAscii line)
schedule_from_text (text.LongLine line) = Text (text.LongLine line)
schedule_from_text (text.NoLastNewline line) = Text (text.NoLastNewline line)
schedule_from_text text.Memory = Memory
