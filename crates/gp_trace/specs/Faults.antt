-- How a fault of the text becomes the reader's own.
use Rattle.gp_text.specs.declared.lines.TextFault.{TextFault}
use Rattle.gp_text.specs.declared.lines.TextFault.TheVariants as text
use Rattle.gp_trace.specs.declared.fault.TraceFault.{TraceFault}
use Rattle.gp_trace.specs.declared.fault.TraceFault.TheVariants.{Text, Memory}

-- a text without lines is told with its fault; want of memory stays what it is
abbrev pub from_text : TextFault → TraceFault
from_text (text.NotAscii line) = Text (text.NotAscii line)
from_text (text.LongLine line) = Text (text.LongLine line)
from_text (text.NoLastNewline line) = Text (text.NoLastNewline line)
from_text text.Memory = Memory
