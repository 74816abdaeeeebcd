-- Which end closes which region, by the regions that a thread is in: the definition by counting says the same.
use Rattle.std.specs.Prelude.{ℕ, suc, ◌≡◌, ◌↔◌, ◌<◌, ◌≤◌, ◌++◌, List, Some, slice_get, take}
use Rattle.gp_trace.specs.declared.event.Event.{Event}
use Rattle.gp_trace.specs.declared.event.Event.TheVariants.{Begin, End}
use Rattle.gp_trace.specs.declared.rules.Standing.{Standing}
use Rattle.gp_trace.specs.Rules.{after_all, AreWellFormed}
use Rattle.gp_instance.specs.Region.{end_of}

-- the regions that a thread, which stands so at first, has begun and not ended before the event of this index, innermost last
abbrev pub begun_before : Standing → List Event → ℕ → List (List ℕ)
begun_before standing events index = (after_all standing (take index events)).begun

-- an end closes the region that a begin begins
pub record ClosesRegion (standing : Standing) (events : List Event) (begin end : ℕ) : Type 0 where
  -- the end comes after the begin, and both name one region
  pub later : begin < end
  pub named : (region : List ℕ) × (slice_get events begin ≡ Some (Begin region)) × (slice_get events end ≡ Some (End region))
  -- up to the end the thread stays in the regions that it is in after the begin
  pub stays : (index : ℕ) → begin < index → index ≤ end → (inner : List (List ℕ)) × (begun_before standing events index ≡ begun_before standing events (suc begin) ++ inner)
  -- and before the end it is in these alone: the one that the begin began is the innermost
  pub innermost : begun_before standing events end ≡ begun_before standing events (suc begin)

-- in events that break no rule, the end that counting finds for a begin is the one that closes its region
abbrev pub RegionsCloseAsBegun : Type 0
RegionsCloseAsBegun = (thread : ℕ) (standing : Standing) (events : List Event) → AreWellFormed thread standing events
    → (begin end : ℕ) → (end_of events begin ≡ Some end) ↔ ClosesRegion standing events begin end
