use Rattle.std.specs.Prelude.{◌≡◌, ◌≢◌, ◌==◌, ℕ, ◌+◌, ◌*◌, ◌^◌, ◌<◌, ◌≤◌, ◌⊎◌, ℤ, pos, ◌+ℤ◌, ◌-ℤ◌, ◌≤ℤ◌, ◌<ℤ◌, Bool, true, false, Option, Some, None, List, length, map, not, count_by, zip, slice_index, slice_index_or, take, All}
use Rattle.std.specs.Int.Signed.{lt_z}
use Rattle.gp_clause.specs.declared.edge.Edge.{Edge}
use Rattle.gp_clause.specs.Edge.{Keeps}
use Rattle.gp_difference.specs.declared.bound.Bound.{Bound}
use Rattle.gp_difference.specs.declared.lower.Tried.{Tried}
use Rattle.gp_difference.specs.declared.lower.Tried.TheVariants.{Unchanged, Lowered, Closed}
use Rattle.gp_difference.specs.Places.{place_at, IsEdgeOf}
use Rattle.gp_clause.specs.Walk.{IsWalk, weight}
use Rattle.gp_difference.specs.Bounds.{edge_at, edges_of, no_bound, start_at, Closes, AreAmong, IsSimple}
use Rattle.gp_difference.specs.Graph.{Reaches}
use Rattle.gp_difference.specs.Placement.{PlacementForm, StandsFrom, ListsMoved, IsUntidy, IsAtRest}

-- Labels are the places that are being made. A point is settled once its label is final; its rank is how many were
-- settled before it, and an open point has the number of points as its rank.

-- the places that a run begins with: they keep all bounds, and are far from the ends of the integers
pub record IsInput (bounds : List Bound) (new : Edge) (places : List ℤ) : Type 0 where
  pub few : length places ≤ 65536
  pub edges : (i : ℕ) → i < length bounds → IsEdgeOf (length places) (edge_at bounds i)
  pub new_edge : IsEdgeOf (length places) new
  pub kept : (i : ℕ) → i < length bounds → Keeps (place_at places) (edge_at bounds i)
  pub bottom : (v : ℕ) → pos 0 ≤ℤ (place_at places v +ℤ pos (2 ^ 62 + 2 ^ 28))
  pub top : (v : ℕ) → place_at places v ≤ℤ pos 0

-- the point was lowered by the new bound
pub record IsRoot (bounds : List Bound) (new : Edge) (places labels : List ℤ) (via : List ℕ) (v : ℕ) : Type 0 where
  pub point : v ≡ new.a
  pub mark : slice_index via v ≡ length bounds
  pub label : place_at labels v ≡ (place_at places new.b +ℤ new.c)

-- the point was lowered by a bound out of a point that was settled before it and fell
pub record IsHung (bounds : List Bound) (places labels : List ℤ) (via ranks : List ℕ) (done v : ℕ) : Type 0 where
  pub which : slice_index via v < length bounds
  pub point : (edge_at bounds (slice_index via v)).a ≡ v
  pub settled : slice_index ranks (edge_at bounds (slice_index via v)).b < done
  pub before : slice_index ranks (edge_at bounds (slice_index via v)).b < slice_index ranks v
  pub fell : place_at labels (edge_at bounds (slice_index via v)).b <ℤ place_at places (edge_at bounds (slice_index via v)).b
  pub label : place_at labels v ≡ (place_at labels (edge_at bounds (slice_index via v)).b +ℤ (edge_at bounds (slice_index via v)).c)

-- the labels of a run: who was settled before fell at least as much
pub record IsWork (bounds : List Bound) (new : Edge) (places labels : List ℤ) (via ranks : List ℕ) (done : ℕ) : Type 0 where
  pub labels_size : length labels ≡ length places
  pub via_size : length via ≡ length places
  pub ranks_size : length ranks ≡ length places
  pub few : done < length places
  pub below : (v : ℕ) → place_at labels v ≤ℤ place_at places v
  pub ranked : (v : ℕ) → v < length places → (slice_index ranks v < done) ⊎ (slice_index ranks v ≡ length places)
  pub order : (v u : ℕ) → v < length places → u < length places →
      slice_index ranks v < done → slice_index ranks v ≤ slice_index ranks u →
      (place_at places u +ℤ place_at labels v) ≤ℤ (place_at places v +ℤ place_at labels u)
  pub tree : (v : ℕ) → v < length places → place_at labels v <ℤ place_at places v →
      IsRoot bounds new places labels via v ⊎ IsHung bounds places labels via ranks done v
  pub new_end : place_at labels new.b ≡ place_at places new.b
  pub end_open : slice_index ranks new.b ≡ length places
  pub new_start : place_at labels new.a ≤ℤ (place_at places new.b +ℤ new.c)
  pub low : (v : ℕ) → v < length places → place_at labels v <ℤ place_at places v →
      place_at places new.b ≤ℤ (place_at labels v +ℤ pos (4096 * (done + 1)))

-- how many points have their old place as label
abbrev pub still_count : List ℤ → List ℤ → ℕ
still_count places labels = count_by (λ pair. not (lt_z pair.1 pair.0)) (zip places labels)

-- how many points are open
abbrev pub open_count : ℕ → List ℕ → ℕ
open_count points ranks = count_by (λ rank. rank == points) ranks

-- the points that fell are listed, and the falls are those of the open points
pub record IsFallen (p : PlacementForm) (ranks : List ℕ) (done : ℕ) : Type 0 where
  pub falls_size : length p.falls ≡ length p.places
  pub room : length p.fallen + still_count p.places p.labels ≡ length p.places
  pub small : All (λ (point : ℕ). point < length p.places) p.fallen
  pub listed : (v : ℕ) → v < length p.places → (place_at p.labels v ≡ place_at p.places v) ⊎ StandsFrom p.fallen 0 v
  pub opened : (v : ℕ) → v < length p.places → slice_index ranks v ≡ length p.places →
      place_at p.falls v ≡ (place_at p.places v -ℤ place_at p.labels v)
  pub closed : (v : ℕ) → v < length p.places → slice_index ranks v < done → place_at p.falls v ≡ pos 0
  pub count : done + open_count (length p.places) ranks ≡ length p.places

-- the labels keep every bound out of a settled point
abbrev pub Settled : List Bound → List ℤ → List ℕ → ℕ → Type 0
Settled bounds labels ranks done = (i : ℕ) → i < length bounds → slice_index ranks (edge_at bounds i).b < done →
    Keeps (place_at labels) (edge_at bounds i)

-- the point at hand was settled last and fell, and the labels keep the bounds out of all other settled points, and
-- those out of it from a number on
pub record IsScan (bounds : List Bound) (new : Edge) (p : PlacementForm) (ranks : List ℕ) (done s i : ℕ) : Type 0 where
  pub work : IsWork bounds new p.places p.labels p.via ranks done
  pub fallen : IsFallen p ranks done
  pub small : s < length p.places
  pub last : slice_index ranks s + 1 ≡ done
  pub fell : place_at p.labels s <ℤ place_at p.places s
  pub low : place_at p.places new.b ≤ℤ (place_at p.labels s +ℤ pos (4096 * done))
  pub settled : (j : ℕ) → j < length bounds → slice_index ranks (edge_at bounds j).b < done → (edge_at bounds j).b ≢ s →
      Keeps (place_at p.labels) (edge_at bounds j)
  pub scanned : (j : ℕ) → i ≤ j → j < length bounds → (edge_at bounds j).b ≡ s → Keeps (place_at p.labels) (edge_at bounds j)

-- the scan with its ranks, which the program does not store
abbrev pub Scanning : List Bound → Edge → PlacementForm → ℕ → ℕ → ℕ → Type 0
Scanning bounds new p done s i = (ranks : List ℕ) × IsScan bounds new p ranks done s i

-- a bound out of a settled point that fell would lower the new bound's second point
pub record IsClosing (bounds : List Bound) (new : Edge) (p : PlacementForm) (ranks : List ℕ) (done i : ℕ) : Type 0 where
  pub work : IsWork bounds new p.places p.labels p.via ranks done
  pub fallen : IsFallen p ranks done
  pub small : i < length bounds
  pub start : (edge_at bounds i).a ≡ new.b
  pub settled : slice_index ranks (edge_at bounds i).b < done
  pub fell : place_at p.labels (edge_at bounds i).b <ℤ place_at p.places (edge_at bounds i).b
  pub less : (place_at p.labels (edge_at bounds i).b +ℤ (edge_at bounds i).c) <ℤ place_at p.places new.b

-- the bound that closes a cycle, with the ranks that the program does not store
abbrev pub Closing : List Bound → Edge → PlacementForm → ℕ → Type 0
Closing bounds new p i = (ranks : List ℕ) × (done : ℕ) × IsClosing bounds new p ranks done i

-- what relaxing one bound leaves
abbrev pub RelaxGives : List Bound → Edge → PlacementForm → ℕ → ℕ → ℕ → Bool → Type 0
RelaxGives bounds new p done s i true = Closing bounds new p i
RelaxGives bounds new p done s i false = Scanning bounds new p done s i

-- between two scans: the labels keep all bounds out of settled points
pub record IsRun (bounds : List Bound) (new : Edge) (p : PlacementForm) (ranks : List ℕ) (done : ℕ) : Type 0 where
  pub work : IsWork bounds new p.places p.labels p.via ranks done
  pub fallen : IsFallen p ranks done
  pub settled : Settled bounds p.labels ranks done

-- the run with its ranks, which the program does not store
abbrev pub Running : List Bound → Edge → PlacementForm → ℕ → Type 0
Running bounds new p done = (ranks : List ℕ) × IsRun bounds new p ranks done

-- what settling one point leaves
abbrev pub SettleGives : List Bound → Edge → PlacementForm → ℕ → Option ℕ → Type 0
SettleGives bounds new p done (Some i) = Closing bounds new p i
SettleGives bounds new p done None = Running bounds new p done

-- the labels keep all bounds and the new one; those that changed fell, reach the new bound's first point, and are near
pub record IsLowered (bounds : List Bound) (new : Edge) (places labels : List ℤ) : Type 0 where
  pub size : length labels ≡ length places
  pub kept : (i : ℕ) → i < length bounds → Keeps (place_at labels) (edge_at bounds i)
  pub new_kept : Keeps (place_at labels) new
  pub below : (v : ℕ) → place_at labels v ≤ℤ place_at places v
  pub reached : (v : ℕ) → v < length places → place_at labels v <ℤ place_at places v → Reaches (edges_of bounds) v new.a
  pub near : (v : ℕ) → v < length places → place_at labels v <ℤ place_at places v →
      place_at places new.b ≤ℤ (place_at labels v +ℤ pos (2 ^ 28))

-- what a run leaves: a bound that closes a cycle, or labels that keep all
abbrev pub LowerGives : List Bound → Edge → PlacementForm → Option ℕ → Type 0
LowerGives bounds new p (Some i) = Closing bounds new p i
LowerGives bounds new p None = IsLowered bounds new p.places p.labels × IsUntidy p 0

-- the bounds of these numbers
abbrev pub walk_of : List Bound → List ℕ → List Bound
walk_of bounds numbers = map (λ number. slice_index_or bounds number no_bound) numbers

-- this many numbers at the head of the list name bounds, and their walk closes a cycle with the new edge
pub record IsClosed (bounds : List Bound) (new : Edge) (walk : List ℕ) (count : ℕ) : Type 0 where
  pub fits : count ≤ length walk
  pub numbers : All (λ number. number < length bounds) (take count walk)
  pub closes : Closes bounds new (walk_of bounds (take count walk))

-- what trying a new bound leaves: places that keep it, lower places, or a walk that closes a cycle with it
abbrev pub TryGives : List Bound → Edge → PlacementForm → PlacementForm → Tried → Type 0
TryGives bounds new old p Unchanged = (p ≡ old) × Keeps (place_at old.places) new
TryGives bounds new old p Lowered =
    (Keeps (place_at old.places) new → ⊥) × IsLowered bounds new old.places p.places × IsAtRest p
    × All (λ (point : ℕ). point < length p.places) p.fallen × ListsMoved p.fallen old.places p.places
TryGives bounds new old p (Closed count) = (p.places ≡ old.places) × IsAtRest p × IsClosed bounds new p.walk count

-- a walk of this many bounds from the new bound's second point to a point that fell, each lowered by the next
pub record IsTracing (bounds : List Bound) (new : Edge) (places labels : List ℤ) (ranks : List ℕ) (walk : List Bound) (count v : ℕ) : Type 0 where
  pub size : length walk ≡ count
  pub small : v < length places
  pub leads : IsWalk new.b (edges_of walk) v
  pub among : AreAmong bounds walk
  pub simple : IsSimple (edges_of walk)
  pub less : (place_at labels v +ℤ weight (edges_of walk)) <ℤ place_at places new.b
  pub fell : place_at labels v <ℤ place_at places v
  pub above : (k : ℕ) → k < length walk →
      (slice_index ranks v < slice_index ranks (start_at (edges_of walk) k)) ⊎ (start_at (edges_of walk) k ≡ new.b)
  pub room : count + slice_index ranks v ≤ length places

-- the walk with the run's ranks, which the program does not store
pub record IsTraced (bounds : List Bound) (new : Edge) (places labels : List ℤ) (via ranks walk : List ℕ) (done count v : ℕ) : Type 0 where
  pub work : IsWork bounds new places labels via ranks done
  pub fits : count ≤ length walk
  pub numbers : All (λ number. number < length bounds) (take count walk)
  pub tracing : IsTracing bounds new places labels ranks (walk_of bounds (take count walk)) count v

-- the walk so far with the ranks of the run, which the program does not store
abbrev pub Tracing : List Bound → Edge → PlacementForm → ℕ → ℕ → Type 0
Tracing bounds new p count v =
    (ranks : List ℕ) × (done : ℕ) × IsTraced bounds new p.places p.labels p.via ranks p.walk done count v
