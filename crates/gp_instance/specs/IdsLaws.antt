-- Laws: the events of a window, and all lists of so many of them, are listed in order.
use Rattle.std.specs.Prelude.{ℕ, zero, suc, ◌+◌, ◌≤◌, ◌≡◌, Some, List, [], ◌∷◌, ◌++◌, Contains, length, map, flat_map, slice_get, unwrap_or}
use Rattle.std.specs.List.{AllByRecursion}
use Rattle.std.proofs.Common.{inl, inr, refl, subst, arith}
use Rattle.std.proofs.lemmas.List.Elements.{Contains-append_cases, Contains-append_left, Contains-append_right}
use Rattle.gp_base.specs.ListLaws.{contains_flat_map, contains_from_map, contains_map, first_or_rest, here, nothing_in, Pairwise, pairwise_append, pairwise_flat_map, pairwise_map, recursion_from_each, there}
use Rattle.gp_trace.specs.declared.event.Event.{Event}
use Rattle.gp_window.specs.declared.schedule.EventId.{EventId}
use Rattle.gp_window.specs.Events.{segment_in}
use Rattle.gp_window.specs.Ids.{IsLess}
use Rattle.gp_instance.specs.Instances.{ids_from, ids_in, ids_of, lists_of}
use Rattle.gp_instance.specs.Listed.{IsBefore}

-- an event of these of a thread has an index from the first on
record IsFrom (thread n : ℕ) (id : EventId) : Type 0 where
  of_thread : thread ≡ id.thread
  late : n ≤ id.index

from_first : (thread n : ℕ) (events : List Event) (id : EventId) → Contains (ids_in thread n events) id → IsFrom thread n id
from_first thread n [] id i = absurd (nothing_in id i)
from_first thread n (event ∷ events) id i =
    elim (first_or_rest _ (ids_in thread (n + 1) events) id i) [
      | inl same ↦ subst (IsFrom thread n) same (record { of_thread = refl; late = omega arith })
      | inr more ↦ let rest = from_first thread (n + 1) events id more in record { of_thread = rest.of_thread; late = omega (arith, rest.late) }
    ]

-- the events of a segment are in order
segment_ordered : (thread n : ℕ) (events : List Event) → Pairwise IsLess (ids_in thread n events)
segment_ordered thread n [] = tt
segment_ordered thread n (event ∷ events) = (
  recursion_from_each (IsLess (record { thread = thread; index = n })) (ids_in thread (n + 1) events)
      (λ id i. let rest = from_first thread (n + 1) events id i in inr (rest.of_thread, omega (arith, rest.late))),
  segment_ordered thread (n + 1) events,
)

-- an event of these threads has one from the first on
threads_from : (thread : ℕ) (segments : List (List Event)) (id : EventId) → Contains (ids_from thread segments) id → thread ≤ id.thread
threads_from thread [] id i = absurd (nothing_in id i)
threads_from thread (segment ∷ segments) id i =
    elim (Contains-append_cases (ids_in thread 0 segment) (ids_from (thread + 1) segments) id i) [
      | inl own ↦ omega (arith, (from_first thread 0 segment id own).of_thread)
      | inr later ↦ omega (arith, threads_from (thread + 1) segments id later)
    ]

-- the events of some threads are in order
pub ids_ordered : (thread : ℕ) (segments : List (List Event)) → Pairwise IsLess (ids_from thread segments)
ids_ordered thread [] = tt
ids_ordered thread (segment ∷ segments) =
    pairwise_append IsLess (ids_in thread 0 segment) (ids_from (thread + 1) segments) (segment_ordered thread 0 segment) (ids_ordered (thread + 1) segments)
    (λ one other i j. inl (omega (arith, (from_first thread 0 segment one i).of_thread, threads_from (thread + 1) segments other j)))

-- the events of a window
pub window_ordered : (segments : List (List Event)) → Pairwise IsLess (ids_of segments)
window_ordered segments = ids_ordered 1 segments

-- lists in order, each with one event before it
with_first : (first : EventId) (lists : List (List EventId)) → Pairwise IsBefore lists → Pairwise IsBefore (map (λ rest. first ∷ rest) lists)
with_first first lists ordered = pairwise_map IsBefore IsBefore (λ rest. first ∷ rest) lists ordered (λ one other i j before. inr (refl, before))

-- lists in order, with each of some events in order before them
pub begun_ordered : (ids : List EventId) (lists : List (List EventId)) → Pairwise IsLess ids → Pairwise IsBefore lists → Pairwise IsBefore (flat_map (λ id. map (λ rest. id ∷ rest) lists) ids)
begun_ordered ids lists ordered rest =
    pairwise_flat_map IsLess IsBefore (λ id. map (λ more. id ∷ more) lists) ids ordered (λ id i. with_first id lists rest)
    (λ first second i j less one other in_one in_other.
    let front = contains_from_map (λ more. first ∷ more) lists one in_one in
    let back = contains_from_map (λ more. second ∷ more) lists other in_other in
    subst (λ list. IsBefore list other) front.2 (subst (IsBefore (first ∷ front.0)) back.2 (inl less)))

-- all lists of so many events in order are in order
pub lists_ordered : (n : ℕ) (ids : List EventId) → Pairwise IsLess ids → Pairwise IsBefore (lists_of n ids)
lists_ordered zero ids ordered = (tt, tt)
lists_ordered (suc n) ids ordered = begun_ordered ids (lists_of n ids) ordered (lists_ordered n ids ordered)

-- each list of elements is one of all lists of as many
pub list_listed : {X : Type 0} (all list : List X) → AllByRecursion (Contains all) list → Contains (lists_of (length list) all) list
list_listed all [] each = here [] []
list_listed all (x ∷ list) each =
    contains_flat_map (λ first. map (λ rest. first ∷ rest) (lists_of (length list) all)) all x (x ∷ list) each.0
    (contains_map (λ rest. x ∷ rest) (lists_of (length list) all) list (list_listed all list each.1))

-- an event of a segment
in_segment : (thread n index : ℕ) (events : List Event) (k : ℕ) (event : Event) → index ≡ n + k → slice_get events k ≡ Some event
    → Contains (ids_in thread n events) (record { thread = thread; index = index })
in_segment thread n index [] k event e got = absurd (cc)
in_segment thread n index (first ∷ events) zero event e got =
    let same : n ≡ index = omega arith in
    subst (λ i. Contains (record { thread = thread; index = n } ∷ ids_in thread (n + 1) events) (record { thread = thread; index = i })) same (here _ _)
in_segment thread n index (first ∷ events) (suc k) event e got = there _ _ _ (in_segment thread (n + 1) index events k event (omega arith) got)

-- an event of one of these threads
in_threads : (n thread index : ℕ) (segments : List (List Event)) (place : ℕ) (event : Event) → thread ≡ n + place
    → slice_get (unwrap_or (slice_get segments place) []) index ≡ Some event → Contains (ids_from n segments) (record { thread = thread; index = index })
in_threads n thread index [] place event e got = absurd (cc)
in_threads n thread index (segment ∷ segments) zero event e got =
    let same : n ≡ thread = omega arith in
    subst (λ t. Contains (ids_in n 0 segment ++ ids_from (n + 1) segments) (record { thread = t; index = index })) same
    (Contains-append_left (ids_in n 0 segment) (ids_from (n + 1) segments) _ (in_segment n 0 index segment index event (omega arith) got))
in_threads n thread index (segment ∷ segments) (suc place) event e got =
    Contains-append_right (ids_in n 0 segment) (ids_from (n + 1) segments) _ (in_threads (n + 1) thread index segments place event (omega arith) got)

-- each event of a window is listed
pub event_listed : (segments : List (List Event)) (thread index : ℕ) (event : Event) → slice_get (segment_in segments thread) index ≡ Some event
    → Contains (ids_of segments) (record { thread = thread; index = index })
event_listed segments zero index event got = absurd (cc)
event_listed segments (suc place) index event got = in_threads 1 (suc place) index segments place event (omega arith) got
