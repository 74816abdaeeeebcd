use Rattle.std.specs.Prelude.{◌≡◌, ℕ, ◌<◌, ◌≤◌, ◌⊎◌, ℤ, pos, ◌-ℤ◌, ◌≤ℤ◌, List, [], ◌∷◌, ◌++◌, length, replicate, slice_index, slice_set, All}
use Rattle.gp_difference.specs.Places.{place_at}

-- the places of a graph's points, and the buffers in which they are moved: the labels are the places that are being
-- made, each with the number of the bound that lowered it; the fallen points are listed, and the falls tell how far an
-- open one fell; the walk is the buffer of a cycle
pub record PlacementForm : Type 0 where
  pub places : List ℤ
  pub labels : List ℤ
  pub via : List ℕ
  pub fallen : List ℕ
  pub falls : List ℤ
  pub walk : List ℕ

-- places that are not being moved
abbrev pub still : List ℤ → PlacementForm
still places = record {
  places = places;
  labels = places;
  via = replicate (length places) 0;
  fallen = [];
  falls = replicate (length places) (pos 0);
  walk = replicate (length places) 0;
}

-- between two runs the labels are the places and no fall is kept
pub record IsAtRest (p : PlacementForm) : Type 0 where
  pub labels_rest : p.labels ≡ p.places
  pub falls_rest : p.falls ≡ replicate (length p.places) (pos 0)
  pub via_size : length p.via ≡ length p.places
  pub walk_size : length p.walk ≡ length p.places

-- a point gets a lower label by a bound
abbrev pub lowered : PlacementForm → ℕ → ℤ → ℕ → PlacementForm
lowered p point label number = record p {
  labels = slice_set p.labels point label;
  via = slice_set p.via point number;
  falls = slice_set p.falls point (place_at p.places point -ℤ label);
}

-- one more point is listed as fallen
abbrev pub with_fallen : PlacementForm → ℕ → PlacementForm
with_fallen p point = record p { fallen = p.fallen ++ point ∷ [] }

-- the point stands in the list at an index or later
abbrev pub StandsFrom : List ℕ → ℕ → ℕ → Type 0
StandsFrom points index point = (k : ℕ) × (index ≤ k) × (k < length points) × (slice_index points k ≡ point)

-- each point is listed from the index on, or its two numbers are one and no fall of it is kept
abbrev pub DifferFrom : List ℕ → ℕ → List ℤ → List ℤ → List ℤ → Type 0
DifferFrom points index from to falls = (v : ℕ) → v < length from →
    StandsFrom points index v ⊎ ((place_at to v ≡ place_at from v) × (place_at falls v ≡ pos 0))

-- the fallen points are listed from the index on, and no other point has a label that is not its place, or a fall
pub record IsUntidy (p : PlacementForm) (index : ℕ) : Type 0 where
  pub labels_size : length p.labels ≡ length p.places
  pub via_size : length p.via ≡ length p.places
  pub falls_size : length p.falls ≡ length p.places
  pub small : All (λ (point : ℕ). point < length p.places) p.fallen
  pub tidy : DifferFrom p.fallen index p.places p.labels p.falls

-- each point is listed as fallen, or its place stayed
abbrev pub ListsMoved : List ℕ → List ℤ → List ℤ → Type 0
ListsMoved fallen before after = (v : ℕ) → StandsFrom fallen 0 v ⊎ (place_at after v ≡ place_at before v)

-- the places and the buffer of a cycle are the same
pub record Stays (p q : PlacementForm) : Type 0 where
  pub same_places : q.places ≡ p.places
  pub same_walk : q.walk ≡ p.walk

-- no place of the points is below the limit
abbrev pub PointsAbove : List ℤ → List ℕ → ℤ → Type 0
PointsAbove places points limit = (k : ℕ) → k < length points → limit ≤ℤ place_at places (slice_index points k)
