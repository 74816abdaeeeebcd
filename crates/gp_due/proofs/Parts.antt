-- A text does not say which part a folder has by a fault of its lines or of the text.
use Rattle.std.proofs.Common.{ℕ, List, Option, Some, None, Result, Ok, Err, slice_get}
use Rattle.gp_shard.specs.declared.reading.ShardFault.TheVariants.{Line as BadLine}
use Rattle.gp_shard.specs.Reading.{field_of, head_of, is_head, no_line, part_of, shard_in, shard_of, windows_of}
use Rattle.gp_text.specs.declared.line.Line.{Line}
use Rattle.gp_text.specs.declared.lines.TextFault.{TextFault}
use Rattle.gp_text.specs.Lines.{end_line_of, lines_of}
use Rattle.gp_due.specs.Readers.{PartsWantNoMemory}
use Rattle.gp_due.specs.Saying.{OnlySays, ShardSays, TextSays}
use Rattle.gp_due.proofs.Lines.{lines_say}
use Rattle.gp_due.proofs.Results as of

field_says : {A : Type 0} (last : ℕ) (spells : List (List ℕ) → Option A) (line : Option Line) → OnlySays ShardSays (field_of last spells line)
field_says last spells None = of.fault tt
field_says last spells (Some line) = of.unless_there (BadLine line.number) (spells line.words) tt

head_says : (last : ℕ) (line : Option Line) → OnlySays ShardSays (head_of last line)
head_says last None = of.fault tt
head_says last (Some line) = of.either (is_head line.words) of.value (of.fault tt)

none_says : (line : Option Line) → OnlySays ShardSays (no_line line)
none_says None = of.value
none_says (Some line) = of.fault tt

shard_says : (last : ℕ) (lines : List Line) → OnlySays ShardSays (shard_of last lines)
shard_says last lines =
    of.in_turn (head_says last (slice_get lines 0)) (λ head.
    of.in_turn (field_says last part_of (slice_get lines 1)) (λ number.
    of.in_turn (field_says last windows_of (slice_get lines 2)) (λ windows.
    of.in_turn (none_says (slice_get lines 3)) (λ none. of.value))))

in_says : (last : ℕ) (lines : Result (List Line) TextFault) → OnlySays TextSays lines → OnlySays ShardSays (shard_in last lines)
in_says last (Ok lines) says = shard_says last lines
in_says last (Err fault) says = of.fault says.fault

pub parts_say : PartsWantNoMemory
parts_say bytes = in_says (end_line_of bytes) (lines_of bytes) (lines_say bytes)
