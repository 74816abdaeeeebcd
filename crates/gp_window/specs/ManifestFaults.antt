-- How a fault of a manifest stands against what is due, and how a text's fault becomes one.
use Rattle.std.specs.Prelude.{◌≡◌, Bool, true, false, Option, Some, None, Result, Err}
use Rattle.gp_text.specs.declared.lines.TextFault.{TextFault}
use Rattle.gp_text.specs.declared.lines.TextFault.TheVariants as text
use Rattle.gp_window.specs.declared.manifest.ManifestFault.{ManifestFault}
use Rattle.gp_window.specs.declared.manifest.ManifestFault.TheVariants.{Text, Line, Memory}

-- a text without lines is no manifest; want of memory stays what it is
abbrev pub from_text : TextFault → ManifestFault
from_text (text.NotAscii line) = Text (text.NotAscii line)
from_text (text.LongLine line) = Text (text.LongLine line)
from_text (text.NoLastNewline line) = Text (text.NoLastNewline line)
from_text text.Memory = Memory

-- a fault that was told is the one that is due; want of memory says nothing
abbrev pub IsDueFault : {A : Type 0} → Result A ManifestFault → ManifestFault → Type 0
IsDueFault due (Text fault) = due ≡ Err (Text fault)
IsDueFault due (Line number) = due ≡ Err (Line number)
IsDueFault due Memory = Unit {0}

-- a value was put, or its place had one already
abbrev pub PutGives : {A : Type 0} → Option A → A → Bool → Type 0
PutGives due values true = due ≡ Some values
PutGives due values false = due ≡ None
