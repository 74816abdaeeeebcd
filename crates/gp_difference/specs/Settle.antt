use Rattle.std.specs.Prelude.{◌≡◌, ℕ, ◌+◌, ◌^◌, ◌<◌, ℤ, pos, ◌+ℤ◌, ◌≤ℤ◌, ◌<ℤ◌, Bool, true, false, Option, Some, None, List, length}
use Rattle.gp_clause.specs.declared.edge.Edge.{Edge}
use Rattle.gp_clause.specs.Edge.{Keeps}
use Rattle.gp_difference.specs.declared.bound.Bound.{Bound}
use Rattle.gp_difference.specs.Places.{place_at, AreFresh, AreLow}
use Rattle.gp_difference.specs.Bounds.{edge_at, edges_of}
use Rattle.gp_difference.specs.Anew.{AreAnew}
use Rattle.gp_difference.specs.Graph.{Reaches}
use Rattle.gp_difference.specs.Lower.{IsClosed}

-- some place is below the limit
abbrev pub SomeBelow : List ℤ → ℤ → Type 0
SomeBelow places limit = (v : ℕ) × (v < length places) × (place_at places v <ℤ limit)

-- no place is below the limit
abbrev pub NoneIsBelow : List ℤ → ℤ → Type 0
NoneIsBelow places limit = (v : ℕ) → v < length places → limit ≤ℤ place_at places v

-- a mark says whether some place is low
pub record Marks (places : List ℤ) (low : Bool) : Type 0 where
  pub yes : low ≡ true → AreLow places
  pub no : low ≡ false → (v : ℕ) → pos 0 ≤ℤ (place_at places v +ℤ pos (2 ^ 62))

-- places are made anew where one was low, and else stay; the answer marks them
abbrev pub RefreshGives : List ℤ → List ℤ → Bool → Bool → Type 0
RefreshGives before after result true = AreAnew before after × (result ≡ false)
RefreshGives before after result false = (after ≡ before) × Marks after result

-- the places keep the bounds and the edge, and moved as the edge and the mark before them say
pub record AreMoved (bounds : List Bound) (edge : Edge) (before : List ℤ) (was_low : Bool) (after : List ℤ) (low : Bool) : Type 0 where
  pub kept : (i : ℕ) → i < length bounds → Keeps (place_at after) (edge_at bounds i)
  pub edge_kept : Keeps (place_at after) edge
  pub bottom : (v : ℕ) → pos 0 ≤ℤ (place_at after v +ℤ pos (2 ^ 62 + 2 ^ 28))
  pub top : (v : ℕ) → place_at after v ≤ℤ pos 0
  pub marks : Marks after low
  pub unchanged : was_low ≡ false → Keeps (place_at before) edge → after ≡ before
  pub below : was_low ≡ false → (v : ℕ) → place_at after v ≤ℤ place_at before v
  pub reached : was_low ≡ false → (v : ℕ) → v < length before → place_at after v <ℤ place_at before v → Reaches (edges_of bounds) v edge.a
  pub near : was_low ≡ false → (v : ℕ) → v < length before → place_at after v <ℤ place_at before v →
      place_at before edge.b ≤ℤ (place_at after v +ℤ pos (2 ^ 28))
  pub anew : was_low ≡ true → AreFresh after

-- what settling an edge leaves: moved places, or the same ones and a walk that closes a cycle
abbrev pub SettleGives : List Bound → Edge → List ℤ → Bool → List ℕ → List ℤ → Bool → Option ℕ → Type 0
SettleGives bounds edge before was_low walk after low None = AreMoved bounds edge before was_low after low
SettleGives bounds edge before was_low walk after low (Some count) = (after ≡ before) × (low ≡ was_low) × IsClosed bounds edge walk count
