use Rattle.std.specs.Prelude.{◌≡◌, ℕ, ◌<◌, List, length, slice_index}

-- the point stands at the spot, and at no other
pub record IsSpot (order : List ℕ) (point spot : ℕ) : Type 0 where
  pub within : spot < length order
  pub here : slice_index order spot ≡ point
  pub alone : (other : ℕ) → other < length order → slice_index order other ≡ point → other ≡ spot

-- each point stands somewhere
abbrev pub HasAll : List ℕ → Type 0
HasAll order = (point : ℕ) → point < length order → (spot : ℕ) × IsSpot order point spot

-- the second list leads back from wherever the first leads
abbrev pub LeadsBack : List ℕ → List ℕ → Type 0
LeadsBack there back = (k : ℕ) → k < length there → (slice_index there k < length there) × (slice_index back (slice_index there k) ≡ k)

-- each point stands at its spot, and each spot has its point
pub record AreInverse (points spots : List ℕ) : Type 0 where
  pub size : length spots ≡ length points
  pub there : LeadsBack points spots
  pub back : LeadsBack spots points
