-- Lists of words in lines.
use Rattle.std.specs.Prelude.{ℕ, zero, suc, List, [], ◌∷◌, length, take, drop}

-- words in lines of 100, the last line with what is left; at most so many lines
abbrev pub lines_up_to : ℕ → List (List ℕ) → List (List (List ℕ))
lines_up_to zero words = []
lines_up_to (suc more) [] = []
lines_up_to (suc more) (word ∷ words) = take 100 (word ∷ words) ∷ lines_up_to more (drop 100 (word ∷ words))

-- a list of words in lines of 100, the last line with what is left; an empty list has no line
abbrev pub in_lines : List (List ℕ) → List (List (List ℕ))
in_lines words = lines_up_to (length words) words
