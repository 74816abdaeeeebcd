-- What the file `shard` says: the rules that a part keeps, and the text that says it.
use Rattle.std.specs.Prelude.{ℕ, ◌+◌, ◌≤◌, List, [], ◌∷◌, codes, decimal}
use Rattle.gp_text.specs.Spelling.{spelling}
use Rattle.gp_shard.specs.declared.shard.Shard.{Shard}

-- the rules of a part
pub record IsShard (s : Shard) : Type 0 where
  -- one of the parts
  pub part : (1 ≤ s.part) × (s.part ≤ s.parts)
  -- at most 4,096 parts
  pub parts : s.parts ≤ 4096
  -- 1 to 4,096 windows of the recording
  pub epochs : (1 ≤ s.epochs) × (s.epochs ≤ 4096)
  -- the windows of the part are windows of the recording
  pub inside : s.before + s.count ≤ s.epochs

-- the words of the three lines: `gpshard 1`, `part I N`, `windows A COUNT E`
abbrev pub shard_words : Shard → List (List (List ℕ))
shard_words s =
    (codes "gpshard" ∷ codes "1" ∷ [])
    ∷ (codes "part" ∷ decimal s.part ∷ decimal s.parts ∷ [])
    ∷ (codes "windows" ∷ decimal (s.before + 1) ∷ decimal s.count ∷ decimal s.epochs ∷ [])
    ∷ []

-- the text of a part: one space between words, and a newline after each line
abbrev pub shard_text : Shard → List ℕ
shard_text s = spelling (shard_words s)
