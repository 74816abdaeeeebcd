use Rattle.std.specs.Prelude.{◌≡◌, ℕ, ◌*◌, ◌<◌, ◌≤◌, ◌⊎◌, ℤ, pos, ◌+ℤ◌, ◌-ℤ◌, ◌≤ℤ◌, ◌<ℤ◌, List, Option, Some, None, length, count_by}
use Rattle.std.specs.Int.Signed.{lt_z}
use Rattle.gp_clause.specs.declared.edge.Edge.{Edge}
use Rattle.gp_clause.specs.Edge.{Keeps}
use Rattle.gp_difference.specs.Places.{place_at, IsEdgeOf, AreFresh}

-- how many places are below a value
abbrev pub below_count : List ℤ → ℤ → ℕ
below_count places value = count_by (λ place. lt_z place value) places

-- the highest of the first places that is below a value, if one is below it
abbrev pub IsNextBelow : List ℤ → ℤ → ℕ → Option ℤ → Type 0
IsNextBelow places value count None = (v : ℕ) → v < count → value ≤ℤ place_at places v
IsNextBelow places value count (Some next) = (next <ℤ value)
    × ((v : ℕ) × (v < length places) × (place_at places v ≡ next))
    × ((v : ℕ) → v < count → (place_at places v ≤ℤ next) ⊎ (value ≤ℤ place_at places v))

-- a distance of places and the one that it becomes: the same, or both are far
abbrev pub AreSpaced : ℤ → ℤ → Type 0
AreSpaced before after = (after ≡ before) ⊎ ((pos 4096 ≤ℤ after) × (pos 4096 <ℤ before))

-- each label of a point at the value is the level, and the others are as before
pub record IsLevelled (places before after : List ℤ) (value level : ℤ) (count : ℕ) : Type 0 where
  pub size : length after ≡ length before
  pub here : (v : ℕ) → v < count → place_at places v ≡ value → place_at after v ≡ level
  pub rest : (v : ℕ) → (place_at places v ≡ value → count ≤ v) → place_at after v ≡ place_at before v

-- the labels of the points not below the value are spaced as their places, and the level is the value's label
pub record AreSqueezed (places labels : List ℤ) (value level : ℤ) : Type 0 where
  pub size : length labels ≡ length places
  pub top : level ≤ℤ pos 0
  pub room : pos (4096 * below_count places value) ≤ℤ (level +ℤ pos (4096 * length places))
  pub value_top : value ≤ℤ pos 0
  pub high : (v : ℕ) → v < length places → value ≤ℤ place_at places v → place_at labels v ≤ℤ pos 0
  pub near : (v : ℕ) → v < length places → value ≤ℤ place_at places v →
      AreSpaced (place_at places v -ℤ value) (place_at labels v -ℤ level)
  pub pairs : (u v : ℕ) → u < length places → v < length places → value ≤ℤ place_at places v → place_at places v ≤ℤ place_at places u →
      AreSpaced (place_at places u -ℤ place_at places v) (place_at labels u -ℤ place_at labels v)

-- the labels keep each edge that the places keep
abbrev pub KeepsLike : List ℤ → List ℤ → Type 0
KeepsLike places labels = (edge : Edge) → IsEdgeOf (length places) edge → Keeps (place_at places) edge → Keeps (place_at labels) edge

-- fresh labels that keep each edge that the places keep
pub record AreAnew (places labels : List ℤ) : Type 0 where
  pub size : length labels ≡ length places
  pub fresh : AreFresh labels
  pub keeps : KeepsLike places labels

-- the best one so far is at most the place
abbrev pub NoneAbove : Option ℤ → ℤ → Type 0
NoneAbove None place = Unit {0}
NoneAbove (Some other) place = other ≤ℤ place

-- the place is taken where it is below the value and above the best one so far
abbrev pub IsHigherBelow : ℤ → ℤ → Option ℤ → Option ℤ → Type 0
IsHigherBelow place value best None = (value ≤ℤ place) × (best ≡ None)
IsHigherBelow place value best (Some next) =
    ((best ≡ Some next) × ((value ≤ℤ place) ⊎ (place ≤ℤ next)))
    ⊎ ((next ≡ place) × (place <ℤ value) × NoneAbove best place)
