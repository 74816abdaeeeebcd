-- Which lines say which part.
use Rattle.std.specs.Prelude.{ℕ, ◌+◌, ◌-◌, Bool, false, ◌&&◌, nat_le, List, [], ◌∷◌, Option, Some, None, Result, Ok, Err, if◌then◌else◌, codes, slice_get}
use Rattle.std.specs.Str.{bytes_eq}
use Rattle.gp_base.specs.Results.{and_then, or_refusal}
use Rattle.gp_text.specs.declared.line.Line.{Line}
use Rattle.gp_text.specs.declared.lines.TextFault.{TextFault}
use Rattle.gp_text.specs.declared.lines.TextFault.TheVariants as text
use Rattle.gp_text.specs.Lines.{end_line_of, lines_of}
use Rattle.gp_text.specs.Numbers.{small_number_of}
use Rattle.gp_shard.specs.declared.reading.PartNumber.{PartNumber}
use Rattle.gp_shard.specs.declared.reading.PartWindows.{PartWindows}
use Rattle.gp_shard.specs.declared.reading.ShardFault.{ShardFault}
use Rattle.gp_shard.specs.declared.reading.ShardFault.TheVariants as bad
use Rattle.gp_shard.specs.declared.shard.Shard.{Shard}

-- what a line spells; else it is a bad line, and where there is no line the end is
abbrev pub field_of : {A : Type 0} → ℕ → (List (List ℕ) → Option A) → Option Line → Result A ShardFault
field_of last spells None = Err (bad.Line last)
field_of last spells (Some line) = or_refusal (bad.Line line.number) (spells line.words)

-- no line: any line is bad
abbrev pub no_line : Option Line → Result (Unit {0}) ShardFault
no_line None = Ok tt
no_line (Some line) = Err (bad.Line line.number)

-- `gpshard 1`
abbrev pub is_head : List (List ℕ) → Bool
is_head (keyword ∷ format ∷ []) = bytes_eq keyword (codes "gpshard") && bytes_eq format (codes "1")
is_head words = false

-- the first line is the head
abbrev pub head_of : ℕ → Option Line → Result (Unit {0}) ShardFault
head_of last None = Err (bad.Line last)
head_of last (Some line) = if is_head line.words then Ok tt else Err (bad.Line line.number)

-- whether it is one of 1 to 4,096 parts
abbrev pub is_part : ℕ → ℕ → Bool
is_part part parts = nat_le 1 part && (nat_le part parts && nat_le parts 4096)

-- a part by its number, and how many parts there are
abbrev pub part_with : Option ℕ → Option ℕ → Option PartNumber
part_with (Some part) (Some parts) = if is_part part parts then Some (record { part = part; parts = parts }) else None
part_with (Some part) None = None
part_with None parts = None

-- `part I N`
abbrev pub part_of : List (List ℕ) → Option PartNumber
part_of (keyword ∷ part ∷ parts ∷ []) = if bytes_eq keyword (codes "part") then part_with (small_number_of part) (small_number_of parts) else None
part_of words = None

-- whether so many windows, from this one on, are windows of a recording of 1 to 4,096
abbrev pub are_windows : ℕ → ℕ → ℕ → Bool
are_windows first count epochs = nat_le 1 epochs && (nat_le epochs 4096 && (nat_le 1 first && nat_le (first + count) (epochs + 1)))

-- windows by the first of them, or the one that would come next, how many they are, and how many the recording has
abbrev pub windows_with : Option ℕ → Option ℕ → Option ℕ → Option PartWindows
windows_with (Some first) (Some count) (Some epochs) =
    if are_windows first count epochs then Some (record { before = first - 1; count = count; epochs = epochs }) else None
windows_with (Some first) (Some count) None = None
windows_with (Some first) None epochs = None
windows_with None count epochs = None

-- `windows A COUNT E`
abbrev pub windows_of : List (List ℕ) → Option PartWindows
windows_of (keyword ∷ first ∷ count ∷ epochs ∷ []) =
    if bytes_eq keyword (codes "windows") then windows_with (small_number_of first) (small_number_of count) (small_number_of epochs) else None
windows_of words = None

-- the part that the lines say, or the first bad line; `last` is the number of the text's end
abbrev pub shard_of : ℕ → List Line → Result Shard ShardFault
shard_of last lines =
    and_then (head_of last (slice_get lines 0)) (λ head.
    and_then (field_of last part_of (slice_get lines 1)) (λ number.
    and_then (field_of last windows_of (slice_get lines 2)) (λ windows.
    and_then (no_line (slice_get lines 3)) (λ none.
    Ok (record { part = number.part; parts = number.parts; before = windows.before; count = windows.count; epochs = windows.epochs })))))

-- the part that a text says, where it has lines
abbrev pub shard_in : ℕ → Result (List Line) TextFault → Result Shard ShardFault
shard_in last (Ok lines) = shard_of last lines
shard_in last (Err fault) = Err (bad.Text fault)

-- the part that a text says, or its first fault
abbrev pub shard_of_text : List ℕ → Result Shard ShardFault
shard_of_text bytes = shard_in (end_line_of bytes) (lines_of bytes)

-- a text without lines says no part; want of memory stays what it is
abbrev pub from_text : TextFault → ShardFault
from_text (text.NotAscii line) = bad.Text (text.NotAscii line)
from_text (text.LongLine line) = bad.Text (text.LongLine line)
from_text (text.NoLastNewline line) = bad.Text (text.NoLastNewline line)
from_text text.Memory = bad.Memory
