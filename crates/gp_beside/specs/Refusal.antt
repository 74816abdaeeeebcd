-- How it is told that a file beside a report breaks a rule.
use Rattle.std.specs.Prelude.{ℕ, List, [], ◌∷◌, codes, decimal}
use Rattle.gp_text.specs.declared.lines.TextFault.TheVariants as text
use Rattle.gp_beside.specs.declared.fault.Cause.{Cause}
use Rattle.gp_beside.specs.declared.fault.Cause.TheVariants as cause
use Rattle.gp_beside.specs.declared.fault.NoteFault.{NoteFault}
use Rattle.gp_beside.specs.Files.{name_of}

-- a rule that a line of this number breaks
abbrev pub at_line : ℕ → List ℕ → List (List ℕ)
at_line line rule = decimal line ∷ rule ∷ []

-- where a rule is broken, and which; want of memory breaks none
abbrev pub cause_words : Cause → List (List ℕ)
cause_words cause.TooLong = codes "toolong" ∷ []
cause_words (cause.Text (text.NotAscii line)) = at_line line (codes "notascii")
cause_words (cause.Text (text.LongLine line)) = at_line line (codes "longline")
cause_words (cause.Text (text.NoLastNewline line)) = at_line line (codes "nolastnewline")
cause_words (cause.Text text.Memory) = []
cause_words (cause.BadLine line) = at_line line (codes "badline")
cause_words (cause.UnknownFile line) = at_line line (codes "unknownfile")
cause_words (cause.UnknownPlace line) = at_line line (codes "unknownplace")
cause_words (cause.EventCount line) = at_line line (codes "eventcount")
cause_words (cause.TooMany line) = at_line line (codes "toomany")

-- that a file is left out, since it breaks a rule
abbrev pub fault_words : NoteFault → List (List ℕ)
fault_words fault = codes "left out: refused" ∷ name_of fault.file ∷ cause_words fault.cause
