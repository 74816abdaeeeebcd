-- The parts of a list that is cut at the first byte of a kind.
use Rattle.std.proofs.Common.{◌≡◌, ℕ, ◌+◌, ◌<◌, ◌==◌, false, List, [], ◌∷◌, length, get_or, take, drop, arith, eq-eqb}
use Rattle.std.specs.List.{slice_split, position_or_len, before_first, after_first}
use Rattle.std.proofs.lemmas.List.Elements.{All-from_get_or}
use Rattle.std.proofs.lemmas.List.Sums.{position_or_len_is}
use Rattle.std.proofs.lemmas.List.Splits.{slice_split_first, slice_split_none}

-- none of these bytes before a place
abbrev pub NotBefore : List ℕ → ℕ → ℕ → Type 0
NotBefore xs at i = (k : ℕ) → k < i → (get_or xs k 0 == at) ≡ false

pub cut_here : (at : ℕ) (xs : List ℕ) (i : ℕ) → i < length xs → NotBefore xs at i → get_or xs i 0 ≡ at → slice_split (λ b. b == at) xs ≡ take i xs ∷ slice_split (λ b. b == at) (drop (i + 1) xs)
cut_here at xs i lt before here =
    let first_is : position_or_len (λ b. b == at) xs ≡ i =
    position_or_len_is (λ b. b == at) xs i 0 (omega arith) before (λ _. eq-eqb _ _ here) in
    let first : slice_split (λ b. b == at) xs ≡ before_first (λ b. b == at) xs ∷ slice_split (λ b. b == at) (after_first (λ b. b == at) xs) =
    slice_split_first (λ b. b == at) xs 0 (omega arith) in
    rw first_is at first

pub no_cut : (at : ℕ) (xs : List ℕ) → NotBefore xs at (length xs) → slice_split (λ b. b == at) xs ≡ xs ∷ []
no_cut at xs before = slice_split_none (λ b. b == at) xs (All-from_get_or (λ b. (b == at) ≡ false) xs 0 before)
