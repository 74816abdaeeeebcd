use Rattle.std.specs.Prelude.{◌≡◌, ◌≢◌, ℕ, ◌-◌, ◌^◌, ℤ, pos, ◌-ℤ◌, ◌<ℤ◌, List, [], ◌∷◌, ◌++◌, length, map, Result, Ok, Err}
use Rattle.gp_clause.specs.declared.edge.Edge.{Edge}
use Rattle.gp_clause.specs.Edge.{Keeps}
use Rattle.gp_difference.specs.declared.bound.Bound.{Bound}
use Rattle.gp_difference.specs.declared.fault.Asserted.{Asserted}
use Rattle.gp_difference.specs.declared.fault.Asserted.TheVariants.{Kept, Cycle}
use Rattle.gp_difference.specs.declared.fault.GraphFault.{GraphFault}
use Rattle.gp_difference.specs.declared.fault.GraphFault.TheVariants.{FixedCycle, Memory}
use Rattle.gp_clause.specs.Walk.{IsWalk, IsAmong, HasNegativeCycle}
use Rattle.gp_difference.specs.Places.{place_at, KeepsAll, NoneBelow, AreFresh, AreLow}
use Rattle.gp_difference.specs.Bounds.{edges_of, untagged, Explains}

-- a graph of difference constraints: its points, the fixed edges, the kept bounds in the order in which they came,
-- how many more can be kept without memory, a place for each point, and the tags of the last cycle
pub record GraphForm : Type 0 where
  pub points : ℕ
  pub edges : List Edge
  pub kept : List Bound
  pub room : ℕ
  pub places : List ℤ
  pub cycle : List ℕ

-- the fixed edges, which have no tag, and then the kept bounds
abbrev pub bounds_of : GraphForm → List Bound
bounds_of graph = map untagged graph.edges ++ graph.kept

-- all fixed edges and kept bounds
abbrev pub all_edges : GraphForm → List Edge
all_edges graph = edges_of (bounds_of graph)

-- what holds of every graph: each point has a place, and the places keep all edges and bounds
pub record HasPlaces (graph : GraphForm) : Type 0 where
  pub placed : length graph.places ≡ graph.points
  pub keeps : KeepsAll graph.places (all_edges graph)
  pub no_cycle : HasNegativeCycle (all_edges graph) → ⊥

-- a graph of these fixed edges alone, with places that were made anew
pub record IsNew (number : ℕ) (fixed : List Edge) (graph : GraphForm) : Type 0 where
  pub points : graph.points ≡ number
  pub edges : graph.edges ≡ fixed
  pub kept : graph.kept ≡ []
  pub fresh : AreFresh graph.places
  pub feasible : HasPlaces graph

-- what making a graph gives: a new one where the edges hold no negative cycle, and else the fault says so
abbrev pub NewGives : ℕ → List Edge → Result GraphForm GraphFault → Type 0
NewGives number fixed (Ok graph) = IsNew number fixed graph
NewGives number fixed (Err FixedCycle) = HasNegativeCycle fixed
NewGives number fixed (Err Memory) = Unit {0}

-- some walk over the edges leads from one point to the other
abbrev pub Reaches : List Edge → ℕ → ℕ → Type 0
Reaches edges from to = (walk : List Edge) × IsWalk from walk to × IsAmong edges walk

-- how the places move where the bound is kept: not at all where they keep it; else those that move fall, and only at
-- points from which the bound's first point is reached; and where some place was too low they are made anew
pub record MovesPlaces (old : GraphForm) (edge : Edge) (places : List ℤ) : Type 0 where
  pub unchanged : (AreLow old.places → ⊥) → Keeps (place_at old.places) edge → places ≡ old.places
  pub falls : (AreLow old.places → ⊥) → (point : ℕ) → place_at places point ≢ place_at old.places point →
      (place_at places point <ℤ place_at old.places point) × Reaches (all_edges old) point edge.a
  pub near : (AreLow old.places → ⊥) → (low : ℤ) → NoneBelow low old.places → NoneBelow (low -ℤ pos (2 ^ 28)) places
  pub anew : AreLow old.places → AreFresh places

-- the bound is added at the end and takes one from the room, and the places keep all
pub record IsKept (old : GraphForm) (bound : Bound) (new : GraphForm) : Type 0 where
  pub added : new ≡ record old { kept = old.kept ++ bound ∷ []; room = old.room - 1; places = new.places }
  pub feasible : HasPlaces new
  pub moves : MovesPlaces old bound.edge new.places

-- the edges and bounds hold a negative cycle with the new one, whose tags are told, and the graph is unchanged
pub record IsRefused (old : GraphForm) (bound : Bound) (new : GraphForm) : Type 0 where
  pub unchanged : new ≡ record old { cycle = new.cycle }
  pub negative : HasNegativeCycle (all_edges old ++ bound.edge ∷ [])
  pub explained : Explains (bounds_of old) bound new.cycle

-- what adding a bound leaves, by the answer
abbrev pub AddGives : GraphForm → Bound → GraphForm → Asserted → Type 0
AddGives old bound new Kept = IsKept old bound new
AddGives old bound new Cycle = IsRefused old bound new

-- a graph with these places and no edges
abbrev pub bare_graph : List ℤ → GraphForm
bare_graph places = record { points = length places; edges = []; kept = []; room = 0; places = places; cycle = [] }

-- what adding a fixed edge leaves
abbrev pub FixGives : GraphForm → Edge → GraphForm → Result (Unit {0}) GraphFault → Type 0
FixGives old edge new (Ok _) = new ≡ record old { edges = old.edges ++ edge ∷ []; places = new.places }
FixGives old edge new (Err FixedCycle) = HasNegativeCycle (all_edges old ++ edge ∷ [])
FixGives old edge new (Err Memory) = Unit {0}

-- the graph with places that were made anew
pub record FreshGives (old new : GraphForm) : Type 0 where
  pub same : new ≡ record old { places = new.places }
  pub fresh : AreFresh new.places
  pub feasible : HasPlaces new
