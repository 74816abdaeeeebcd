-- The end of a region: regions of one thread nest, so it is the first place up to which as many regions ended as begun.
use Rattle.std.specs.Prelude.{ℕ, zero, suc, if◌then◌else◌, slice_get, unwrap_or, Bool, true, false, ◌+◌, ◌==◌, List, [], ◌∷◌, Option, None, count_by, drop, map, position}
use Rattle.std.specs.Option.{option_map}
use Rattle.gp_trace.specs.declared.event.Event.{Event}
use Rattle.gp_trace.specs.declared.event.Event.TheVariants.{Begin, End}

-- the event begins a region
abbrev pub is_begin : Event → Bool
is_begin (Begin name) = true
is_begin other = false

-- the event ends a region
abbrev pub is_end : Event → Bool
is_end (End name) = true
is_end other = false

-- the lists with which a list begins, but for the empty one, the shorter first
abbrev pub fronts : {A : Type 0} → List A → List (List A)
fronts [] = []
fronts (first ∷ rest) = (first ∷ []) ∷ map (λ front. first ∷ front) (fronts rest)

-- as many regions end in these events as begin
abbrev pub is_level : List Event → Bool
is_level events = count_by is_begin events == count_by is_end events

-- how far behind the begin of a region, which these events start with, its end stands
abbrev pub end_behind : List Event → Option ℕ
end_behind [] = None
end_behind (event ∷ events) = if is_begin event then position is_level (fronts (event ∷ events)) else None

-- the index of the end that closes the very region begun at this index of a segment, where it ends in the segment
abbrev pub end_of : List Event → ℕ → Option ℕ
end_of segment index = option_map (λ behind. index + behind) (end_behind (drop index segment))

-- the ends of the regions that these events begin, the first of which has this index
abbrev pub ends_from : ℕ → List Event → List (Option ℕ)
ends_from index [] = []
ends_from index (event ∷ events) = option_map (λ behind. index + behind) (end_behind (event ∷ events)) ∷ ends_from (index + 1) events

-- for each index of a segment the index of the end of the region begun there
abbrev pub ends_of : List Event → List (Option ℕ)
ends_of segment = ends_from 0 segment

-- the same of the segment of a thread
abbrev pub ends_in : List (List Event) → ℕ → List (Option ℕ)
ends_in segments zero = []
ends_in segments (suc place) = unwrap_or (slice_get (map ends_of segments) place) []

-- of the ends that wait for their begins, the nearest first, a begin takes the nearest
abbrev pub end_at : Event → List ℕ → Option ℕ
end_at event waiting = if is_begin event then slice_get waiting 0 else None

-- the ends that wait before an event of this index
abbrev pub waiting_at : Event → ℕ → List ℕ → List ℕ
waiting_at event index waiting = if is_begin event then drop 1 waiting else if is_end event then index ∷ waiting else waiting
