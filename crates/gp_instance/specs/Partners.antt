-- Partners. Of two atoms the events that may stand beside each other have equal keys; so an event whose key no event of
-- the other atom has, or none that its thread and its place in it allow, has no partner there, and is in no instance.
use Rattle.std.specs.Prelude.{ℕ, ◌≡◌, Bool, true, false, not, ◌==◌, ◌||◌, ◌⊎◌, nat_lt, List, [], ◌∷◌, ◌++◌, length, Option, Some, None, filter, if◌then◌else◌, slice_get}
use Rattle.std.specs.List.{list_all, list_any}
use Rattle.std.specs.Str.{bytes_eq}
use Rattle.std.specs.Ordering.{nat_cmp}
use Rattle.std.specs.Cmp.Lexicographic.{slice_cmp}
use Rattle.std.specs.BTreeMap as tree
use Rattle.std.specs.BTreeMap.{BTreeMap}
use Rattle.gp_trace.specs.declared.event.Event.{Event}
use Rattle.gp_window.specs.declared.schedule.EventId.{EventId}
use Rattle.gp_property.specs.declared.property.Term.{Term}
use Rattle.gp_property.specs.declared.property.Term.TheVariants as term
use Rattle.gp_property.specs.declared.atoms.PatternAtom.{PatternAtom}
use Rattle.gp_instance.specs.declared.link.Link.{Link}
use Rattle.gp_instance.specs.declared.link.Side.{Side}
use Rattle.gp_instance.specs.declared.link.Side.TheVariants.{First, Second}
use Rattle.gp_instance.specs.declared.span.Span.{Span}
use Rattle.gp_instance.specs.declared.partners.Partners.{Partners}
use Rattle.gp_instance.specs.Instance.{is_same_mark}
use Rattle.gp_window.specs.Events.{event_in, segment_in}
use Rattle.gp_window.specs.Ids.{is_less, is_same}
use Rattle.gp_instance.specs.Region.{end_of}
use Rattle.gp_instance.specs.Search.{chosen_of, may_stand}
use Rattle.gp_instance.specs.Shape.{names_of, terms_of}

-- an event has a partner among those of an atom that comes later in the pattern
abbrev pub has_later : List (List Event) → PatternAtom → PatternAtom → List EventId → EventId → Bool
has_later segments first second others id = list_any (λ other. may_stand segments (chosen_of segments first id) second other) others

-- an event has a partner among those of an atom that comes earlier in the pattern
abbrev pub has_earlier : List (List Event) → PatternAtom → PatternAtom → List EventId → EventId → Bool
has_earlier segments first second others id = list_any (λ other. may_stand segments (chosen_of segments first other) second id) others

-- an event of the atom on this side has a partner among those of the other atom
abbrev pub has_partner : List (List Event) → PatternAtom → PatternAtom → Side → List EventId → EventId → Bool
has_partner segments first second First others id = has_later segments first second others id
has_partner segments first second Second others id = has_earlier segments first second others id

-- these are some of the events, in their order, and each is among them that has a partner
unfoldable pub KeepsPartnered : (EventId → Bool) → List EventId → List EventId → Type 0
KeepsPartnered partnered ids kept = (keep : EventId → Bool) × (kept ≡ filter keep ids) × ((id : EventId) → partnered id ≡ true → keep id ≡ true)

-- the names of an event, where there is one
abbrev pub names_with : Option Event → List (List ℕ)
names_with None = []
names_with (Some event) = names_of event

-- two terms are the same parameter
abbrev pub are_one_parameter : Option Term → Option Term → Bool
are_one_parameter None other = false
are_one_parameter (Some (term.Is name)) other = false
are_one_parameter (Some term.Any) other = false
are_one_parameter (Some (term.Param one)) None = false
are_one_parameter (Some (term.Param one)) (Some (term.Is name)) = false
are_one_parameter (Some (term.Param one)) (Some term.Any) = false
are_one_parameter (Some (term.Param one)) (Some (term.Param other)) = bytes_eq one other

-- at these places two lists of terms have the same parameter
abbrev pub is_shared : List Term → List Term → ℕ × ℕ → Bool
is_shared ones others places = are_one_parameter (slice_get ones places.0) (slice_get others places.1)

-- what two atoms, the first of which comes earlier, want of their events
pub record IsLink (first second : PatternAtom) (link : Link) : Type 0 where
  pub thread : link.same_thread ≡ bytes_eq first.thread_var second.thread_var
  pub step : link.same_step ≡ (first.step == second.step)
  pub closing : link.closing ≡ is_same_mark first.opens second.closes
  pub opening : link.opening ≡ is_same_mark second.opens first.closes
  pub shared : list_all (is_shared (terms_of first.shape) (terms_of second.shape)) link.shared ≡ true

-- the place on one side of two
abbrev pub place_on : Side → ℕ × ℕ → ℕ
place_on First places = places.0
place_on Second places = places.1

-- the event has a name at each shared place
abbrev pub is_bound : Side → List (ℕ × ℕ) → List (List ℕ) → Bool
is_bound side shared names = list_all (λ places. nat_lt (place_on side places) (length names)) shared

-- a name and a zero, where there is a name
abbrev pub name_part : Option (List ℕ) → List ℕ
name_part None = []
name_part (Some name) = name ++ 0 ∷ []

-- the names at the shared places, each closed by a zero
abbrev pub shared_names : Side → List (ℕ × ℕ) → List (List ℕ) → List ℕ
shared_names side [] names = []
shared_names side (places ∷ shared) names = name_part (slice_get names (place_on side places)) ++ shared_names side shared names

-- the thread, where two atoms have one thread variable
abbrev pub thread_index : Bool → EventId → Option ℕ
thread_index true id = Some id.thread
thread_index false id = None

-- which of two atoms opens the region that the other closes
abbrev pub opener : Link → Option Side
opener link = if link.closing then Some First else if link.opening then Some Second else None

-- the index of the end of the region that one of two atoms opens and the other closes
abbrev pub region_index : List (List Event) → Option Side → Side → EventId → Option ℕ
region_index segments None side id = None
region_index segments (Some First) First id = end_of (segment_in segments id.thread) id.index
region_index segments (Some First) Second id = Some id.index
region_index segments (Some Second) First id = Some id.index
region_index segments (Some Second) Second id = end_of (segment_in segments id.thread) id.index

-- a number, where there is one
abbrev pub index_part : Option ℕ → List ℕ
index_part None = []
index_part (Some index) = index ∷ []

-- what an event and its partner have in common
unfoldable pub key_of : List (List Event) → Link → Side → EventId → List ℕ
key_of segments link side id =
    (index_part (thread_index link.same_thread id) ++ index_part (region_index segments (opener link) side id)) ++ shared_names side link.shared (names_with (event_in segments id))

-- the event is not before the first and not after the last
pub record IsWithin (span : Span) (id : EventId) : Type 0 where
  pub from : is_less id span.first ≡ false
  pub to : is_less span.last id ≡ false

-- an event of the first atom is before the last of the span, one of the second after the first
abbrev pub is_inside : Side → EventId → Span → Bool
is_inside First id span = is_less id span.last
is_inside Second id span = is_less span.first id

-- an event of a span that has another thread, where the thread variables differ; that is another event, where the step is the same;
-- and that is later or earlier, where the steps differ
abbrev pub reaches : Link → Side → EventId → Span → Bool
reaches link side id span =
    if link.same_thread
    then (if link.same_step
    then not (is_same span.first id) || not (is_same span.last id)
    else is_inside side id span)
    else not (span.first.thread == id.thread) || not (span.last.thread == id.thread)

-- some event of the span of its key may be a partner
abbrev pub reaches_some : Link → Side → EventId → Option Span → Bool
reaches_some link side id None = false
reaches_some link side id (Some span) = reaches link side id span

-- the span of the events with this key
abbrev pub span_at : BTreeMap (List ℕ) Span → List ℕ → Option Span
span_at spans key = tree.get (slice_cmp nat_cmp) spans key

-- these partners leave it open whether the event has one
unfoldable pub may_pair : List (List Event) → Link → Side → Partners → EventId → Bool
may_pair segments link side partners id =
    not (is_bound side link.shared (names_with (event_in segments id))) || partners.free || reaches_some link side id (span_at partners.spans (key_of segments link side id))

-- an event is in the span of its key
unfoldable pub IsHeld : BTreeMap (List ℕ) Span → List ℕ → EventId → Type 0
IsHeld spans key id = (span : Span) × (span_at spans key ≡ Some span) × IsWithin span id

-- an event of the atom on this side counts as a partner
unfoldable pub Counts : List (List Event) → Link → Side → Partners → EventId → Type 0
Counts segments link side partners id =
    (partners.free ≡ true) ⊎ ((is_bound side link.shared (names_with (event_in segments id)) ≡ true) × IsHeld partners.spans (key_of segments link side id) id)

-- the other side
abbrev pub across : Side → Side
across First = Second
across Second = First
