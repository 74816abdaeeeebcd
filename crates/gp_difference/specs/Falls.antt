use Rattle.std.specs.Prelude.{◌≡◌, ◌≢◌, ℕ, ◌+◌, ◌*◌, ◌<◌, ◌≤◌, ℤ, pos, ◌≤ℤ◌, ◌<ℤ◌, List, length, slice_index, Option, Some, None}
use Rattle.gp_difference.specs.Places.{place_at}

-- the number of the point at a spot of the order
abbrev pub fall_at : List ℤ → List ℕ → ℕ → ℤ
fall_at falls order spot = place_at falls (slice_index order spot)

-- of the two spots the second is one of the two below the first
abbrev pub IsBelow : ℕ → ℕ → Type 0
IsBelow above below = (2 * above < below) × (below ≤ 2 * above + 2)

-- the numbers would be a heap, did this one stand at the spot: none would be greater than the one above it
pub record IsHeapBut (fall : ℕ → ℤ) (count spot : ℕ) (number : ℤ) : Type 0 where
  pub others : (above below : ℕ) → IsBelow above below → below < count → above ≢ spot → below ≢ spot → fall below ≤ℤ fall above
  pub greatest : (below : ℕ) → IsBelow spot below → below < count → fall below ≤ℤ number
  pub least : (above : ℕ) → IsBelow above spot → spot < count → number ≤ℤ fall above

-- the points whose numbers are above zero stand at the first spots, and are a heap
pub record AreHeaped (falls : List ℤ) (order : List ℕ) (count : ℕ) : Type 0 where
  pub size : length order ≡ length falls
  pub few : count ≤ length order
  pub first : (k : ℕ) → k < count → pos 0 <ℤ fall_at falls order k
  pub rest : (k : ℕ) → count ≤ k → k < length order → fall_at falls order k ≤ℤ pos 0
  pub heap : (above below : ℕ) → IsBelow above below → below < count → fall_at falls order below ≤ℤ fall_at falls order above

-- the same, did this number stand at the spot
pub record AreHeapedBut (falls : List ℤ) (order : List ℕ) (count spot : ℕ) (number : ℤ) : Type 0 where
  pub size : length order ≡ length falls
  pub few : count ≤ length order
  pub within : spot < length order
  pub first : (k : ℕ) → k < count → k ≢ spot → pos 0 <ℤ fall_at falls order k
  pub rest : (k : ℕ) → count ≤ k → k < length order → k ≢ spot → fall_at falls order k ≤ℤ pos 0
  pub inside : spot < count → pos 0 <ℤ number
  pub outside : count ≤ spot → number ≤ℤ pos 0
  pub heap : IsHeapBut (fall_at falls order) count spot number

-- the point at the spot may belong further up, and nowhere else
abbrev pub MayRise : List ℤ → List ℕ → ℕ → ℕ → Type 0
MayRise falls order count spot = (number : ℤ) × AreHeapedBut falls order count spot number × (spot < count) × (number ≤ℤ fall_at falls order spot)

-- it may belong further down, and nowhere else
abbrev pub MaySink : List ℤ → List ℕ → ℕ → ℕ → Type 0
MaySink falls order count spot = (number : ℤ) × AreHeapedBut falls order count spot number × (spot < count) × (pos 0 <ℤ fall_at falls order spot) × (fall_at falls order spot ≤ℤ number)

-- the point with the greatest number, where one is above zero
abbrev pub IsMost : List ℤ → Option ℕ → Type 0
IsMost falls None = (v : ℕ) → place_at falls v ≤ℤ pos 0
IsMost falls (Some point) = (point < length falls) × (pos 0 <ℤ place_at falls point) × ((v : ℕ) → place_at falls v ≤ℤ place_at falls point)
