-- Which lines are read as which part, and that its text is.
use Rattle.std.specs.Prelude.{ℕ, ◌≡◌, ◌↔◌, List, map, Ok}
use Rattle.gp_text.specs.declared.line.Line.{Line}
use Rattle.gp_shard.specs.declared.shard.Shard.{Shard}
use Rattle.gp_shard.specs.Reading.{shard_of, shard_of_text}
use Rattle.gp_shard.specs.Shard.{IsShard, shard_text, shard_words}

-- the lines have the words of this part, and it keeps its rules
pub record Spells (lines : List Line) (s : Shard) : Type 0 where
  pub words : map (λ line. line.words) lines ≡ shard_words s
  pub kept : IsShard s

-- lines are read as a part exactly where they spell it, whatever the line is at which their text ends
abbrev pub ShardsAreSpelled : Type 0
ShardsAreSpelled = (last : ℕ) (lines : List Line) (s : Shard) → (shard_of last lines ≡ Ok s) ↔ Spells lines s

-- the text of a part that keeps its rules is read as it
abbrev pub ShardsReadAgain : Type 0
ShardsReadAgain = (s : Shard) → IsShard s → shard_of_text (shard_text s) ≡ Ok s

-- what is read keeps its rules
abbrev pub ReadIsShard : Type 0
ReadIsShard = (bytes : List ℕ) (s : Shard) → shard_of_text bytes ≡ Ok s → IsShard s
