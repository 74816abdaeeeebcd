-- How a fault of the text becomes the reader's own.
use Rattle.gp_text.specs.declared.lines.TextFault.{TextFault}
use Rattle.gp_text.specs.declared.lines.TextFault.TheVariants as text
use Rattle.gp_property.specs.declared.fault.PropertyFault.{PropertyFault}
use Rattle.gp_property.specs.declared.fault.PropertyFault.TheVariants.{Text, Memory}

-- a fault of the text is told as it is; want of memory stays what it is
abbrev pub from_text : TextFault → PropertyFault
from_text (text.NotAscii line) = Text (text.NotAscii line)
from_text (text.LongLine line) = Text (text.LongLine line)
from_text (text.NoLastNewline line) = Text (text.NoLastNewline line)
from_text text.Memory = Memory
