use Rattle.std.specs.Prelude.{◌≡◌, ◌≢◌, ℕ, ◌+◌, ◌-◌, ◌<◌, ◌^◌, zero, suc, List, [], ◌∷◌, ◌++◌, length, slice_index, ⊤}
use Rattle.std.specs.List.{AllByRecursion}
use Rattle.gp_queue.specs.Order.{IsOrder}

-- each of the two places names the other: b comes next after a, and a stands right before b
abbrev pub AreLinked : (ℕ → ℕ) → (ℕ → ℕ) → ℕ → ℕ → Type 0
AreLinked next prev a b = (next a ≡ b) × (prev b ≡ a)

-- from the place a the links lead over the places of these numbers to the place b, and back the same way
abbrev pub IsChain : (ℕ → ℕ) → (ℕ → ℕ) → ℕ → List ℕ → ℕ → Type 0
IsChain next prev a [] b = AreLinked next prev a b
IsChain next prev a (x ∷ xs) b = AreLinked next prev a (x + 1) × IsChain next prev (x + 1) xs b

-- the place where these numbers begin, or this place where there are none
abbrev pub first_place : List ℕ → ℕ → ℕ
first_place [] place = place
first_place (x ∷ xs) place = x + 1

-- the place where these numbers end, or this place where there are none
abbrev pub last_place : ℕ → List ℕ → ℕ
last_place place [] = place
last_place place (x ∷ xs) = last_place (x + 1) xs

-- the place is that of none of these numbers
abbrev pub IsOff : ℕ → List ℕ → Type 0
IsOff place xs = AllByRecursion (λ x. place ≢ x + 1) xs

-- no number stands here twice
abbrev pub IsOnce : List ℕ → Type 0
IsOnce [] = ⊤
IsOnce (x ∷ xs) = IsOff (x + 1) xs × IsOnce xs

-- the links spell this order of some of the numbers below count, in a ring through place 0
pub record IsRing (next prev : List ℕ) (count : ℕ) (order : List ℕ) : Type 0 where
  pub room : count < length next
  pub sizes : length prev ≡ length next
  pub below : AllByRecursion (λ x. x < count) order
  pub once : IsOnce order
  pub linked : IsChain (slice_index next) (slice_index prev) 0 order 0

-- the ring can take in this number between the two parts of its order, of which the first ends at the place before
pub record IsGap (next prev : List ℕ) (count before number : ℕ) (front back : List ℕ) : Type 0 where
  pub ring : IsRing next prev count (front ++ back)
  pub fits : number < count
  pub fresh : IsOff (number + 1) (front ++ back)
  pub ends : last_place 0 front ≡ before

-- the numbers whose places the next links lead over, so many of them, from this place on
abbrev pub walk : (ℕ → ℕ) → ℕ → ℕ → List ℕ
walk next zero place = []
walk next (suc steps) place = (place - 1) ∷ walk next steps (next place)

-- the order that the next links spell: all numbers, from the one that comes next after place 0
abbrev pub order_of : List ℕ → List ℕ
order_of next = walk (slice_index next) (length next - 1) (slice_index next 0)

-- the two arrays are the links of this order, which has each of its numbers once
pub record IsQueue (next prev order : List ℕ) : Type 0 where
  pub ring : IsRing next prev (length order) order
  pub size : length next ≡ length order + 1
  pub fits : length order < 2 ^ 32
  pub numbers : IsOrder order
