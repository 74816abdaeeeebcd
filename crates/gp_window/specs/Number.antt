-- Numbers in the lines of a manifest.
use Rattle.std.specs.Prelude.{ℕ, Bool, true, ◌&&◌, ◌+◌, List, [], ◌∷◌, Option, Some, None, nat_le}
use Rattle.gp_text.specs.Numbers.{small_number_of}

-- a number before further numbers, where all of them are numbers
abbrev pub with_number : Option ℕ → Option (List ℕ) → Option (List ℕ)
with_number (Some n) (Some more) = Some (n ∷ more)
with_number (Some n) None = None
with_number None more = None

-- the words as numbers, where each of them is one
abbrev pub numbers_of : List (List ℕ) → Option (List ℕ)
numbers_of [] = Some []
numbers_of (word ∷ words) = with_number (small_number_of word) (numbers_of words)

-- whether the numbers rise, from `low` on and up to `high`
abbrev pub is_rising : ℕ → ℕ → List ℕ → Bool
is_rising low high [] = true
is_rising low high (n ∷ more) = nat_le low n && nat_le n high && is_rising (n + 1) high more
