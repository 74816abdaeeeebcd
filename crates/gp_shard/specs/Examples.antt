-- Small texts, and the parts that they say.
use Rattle.std.specs.Prelude.{◌≡◌, ℕ, List, [], ◌∷◌, ◌++◌, Ok, Err, codes}
use Rattle.gp_shard.specs.declared.reading.ShardFault.TheVariants.{Line}
use Rattle.gp_shard.specs.declared.shard.Shard.{Shard}
use Rattle.gp_shard.specs.Reading.{shard_of_text}
use Rattle.gp_shard.specs.Shard.{shard_text}

-- a line of a text
abbrev pub line : List ℕ → List ℕ → List ℕ
line text rest = text ++ 10 ∷ rest

-- three lines
abbrev pub lines : List ℕ → List ℕ → List ℕ → List ℕ
lines head part windows = line head (line part (line windows []))

abbrev pub head : List ℕ
head = codes "gpshard 1"

-- the second of three parts of a recording of ten windows: windows 4 to 7
abbrev pub middle : Shard
middle = record { part = 2; parts = 3; before = 3; count = 4; epochs = 10 }

-- the last part, which has no window
abbrev pub last : Shard
last = record { part = 3; parts = 3; before = 10; count = 0; epochs = 10 }

-- a text is refused at this line
abbrev pub IsRefused : List ℕ → ℕ → Type 0
IsRefused text number = shard_of_text text ≡ Err (Line number)

pub record ExamplesHold : Type 0 where
  pub middle_read : shard_of_text (lines head (codes "part 2 3") (codes "windows 4 4 10")) ≡ Ok middle
  pub last_read : shard_of_text (lines head (codes "part 3 3") (codes "windows 11 0 10")) ≡ Ok last
  pub middle_told : shard_text middle ≡ lines head (codes "part 2 3") (codes "windows 4 4 10")
  pub last_told : shard_text last ≡ lines head (codes "part 3 3") (codes "windows 11 0 10")
  -- another format, a part behind the last one, a window behind the last one, a number that is not canonical
  pub format : IsRefused (lines (codes "gpshard 2") (codes "part 2 3") (codes "windows 4 4 10")) 1
  pub behind_last : IsRefused (lines head (codes "part 4 3") (codes "windows 4 4 10")) 2
  pub too_many : IsRefused (lines head (codes "part 2 3") (codes "windows 4 8 10")) 3
  pub no_decimal : IsRefused (lines head (codes "part 2 3") (codes "windows 04 4 10")) 3
  -- a text that ends early, and one that goes on
  pub early : IsRefused (line head (line (codes "part 2 3") [])) 3
  pub late : IsRefused (line head (lines (codes "part 2 3") (codes "windows 4 4 10") (codes "part 2 3"))) 4
  pub nothing : IsRefused [] 1
