use Rattle.std.specs.Prelude.{ℕ, ◌-◌, ◌==◌, not, List, [], ◌∷◌, length, filter, Option, None, if◌then◌else◌, slice_get, IsPermutation}
use Rattle.std.specs.List.{range_with_len}

-- the numbers from low up to below high, each one more than the one before it
abbrev pub numbers_between : ℕ → ℕ → List ℕ
numbers_between low high = range_with_len low (high - low)

-- each number below the length stands in the order, and stands there once
abbrev pub IsOrder : List ℕ → Type 0
IsOrder order = IsPermutation (numbers_between 0 (length order)) order

-- this number, and behind it all the others as they stood before
abbrev pub moved_to_front : ℕ → List ℕ → List ℕ
moved_to_front i order = i ∷ filter (λ x. not (x == i)) order

-- the number that stands right after this one, if there is one
abbrev pub next_of : ℕ → List ℕ → Option ℕ
next_of i [] = None
next_of i (x ∷ xs) = if x == i then slice_get xs 0 else next_of i xs
