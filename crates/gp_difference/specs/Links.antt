use Rattle.std.specs.Prelude.{◌≡◌, ◌≢◌, ℕ, ◌+◌, ◌<◌, ◌≤◌, List, length, slice_index}
use Rattle.gp_difference.specs.declared.bound.Bound.{Bound}
use Rattle.gp_difference.specs.Bounds.{edge_at}

-- bounds in the order in which they came, the number of points, and how many more bounds there is room for
pub record BoundList : Type 0 where
  pub points : ℕ
  pub bounds : List Bound
  pub room : ℕ

-- of the bounds below the count, the latest out of the point is the one before this number, and at 0 there is none
pub record IsLatest (bounds : List Bound) (count point latest : ℕ) : Type 0 where
  pub within : latest ≤ count
  pub out : (number : ℕ) → number + 1 ≡ latest → (edge_at bounds number).b ≡ point
  pub newest : (number : ℕ) → latest ≤ number → number < count → (edge_at bounds number).b ≢ point

-- each point leads to its latest bound, and each bound to the one before it out of the same point
pub record IsLinked (bounds : List Bound) (heads links : List ℕ) : Type 0 where
  pub size : length links ≡ length bounds
  pub seconds : (number : ℕ) → number < length bounds → (edge_at bounds number).b < length heads
  pub latest : (point : ℕ) → point < length heads → IsLatest bounds (length bounds) point (slice_index heads point)
  pub earlier : (number : ℕ) → number < length bounds →
      IsLatest bounds number (edge_at bounds number).b (slice_index links number)
