-- The events of a cycle are events of the window, of different threads.
use Rattle.std.proofs.Common.{ℕ, zero, suc, ◌≡◌, ◌<◌, sym, ◌∙◌, refl, List, [], ◌∷◌, true, arith, ltb-true}
use Rattle.std.specs.Prelude.{Some, ◌==◌, ◌≢◌, nat_lt, slice_get}
use Rattle.std.specs.List.{AllByRecursion, list_all}
use Rattle.std.proofs.lemmas.Bool.{and_parts, eq-eqb, not-true, true≢false}
use Rattle.gp_base.specs.ListLaws.{Pairwise}
use Rattle.gp_trace.specs.declared.event.Event.{Event}
use Rattle.gp_window.specs.declared.schedule.EventId.{EventId}
use Rattle.gp_window.specs.Events.{segment_of}
use Rattle.gp_window.specs.WindowForm.{WindowForm}
use Rattle.gp_instance.specs.Pairs.{all_pairs}
use Rattle.gp_constraint.specs.PointLaws.{event_id, IsEventOf}
use Rattle.gp_stuck.specs.Cycle.{are_apart, is_cycle, waits_around, waits_for}
use Rattle.gp_stuck.proofs.Blocked.{cycle_told, waiting_event}

around_events : (window : WindowForm) (first : EventId) (ids : List EventId) → waits_around window first ids ≡ true → AllByRecursion (IsEventOf window) ids
around_events window first [] e = tt
around_events window first (last ∷ []) e = (waiting_event window last first e, tt)
around_events window first (one ∷ other ∷ rest) e =
    let all = and_parts (waits_for window one other) (waits_around window first (other ∷ rest)) e in
    (waiting_event window one other all.0, around_events window first (other ∷ rest) all.1)

-- the events of a cycle are there
pub cycle_events : (window : WindowForm) (ids : List EventId) → is_cycle window ids ≡ true → AllByRecursion (IsEventOf window) ids
cycle_events window [] e = cc
cycle_events window (first ∷ rest) e = around_events window first (first ∷ rest) (cycle_told window first rest e).waits

-- two events of different threads
abbrev pub OfOther : EventId → EventId → Type 0
OfOther one other = one.thread ≢ other.thread

apart_told : (one other : EventId) → are_apart one other ≡ true → OfOther one other
apart_told one other e same = true≢false (sym (eq-eqb one.thread other.thread same) ∙ not-true (one.thread == other.thread) e)

each_apart : (one : EventId) (ids : List EventId) → list_all (are_apart one) ids ≡ true → AllByRecursion (OfOther one) ids
each_apart one [] e = tt
each_apart one (id ∷ ids) e =
    let all = and_parts (are_apart one id) (list_all (are_apart one) ids) e in
    (apart_told one id all.0, each_apart one ids all.1)

pairs_apart : (ids : List EventId) → all_pairs are_apart ids ≡ true → Pairwise OfOther ids
pairs_apart [] e = tt
pairs_apart (id ∷ ids) e =
    let all = and_parts (list_all (are_apart id) ids) (all_pairs are_apart ids) e in
    (each_apart id ids all.0, pairs_apart ids all.1)

lesser_apart : (one : EventId) (ids : List EventId) → list_all (λ other. nat_lt one.thread other.thread) ids ≡ true → AllByRecursion (OfOther one) ids
lesser_apart one [] e = tt
lesser_apart one (id ∷ ids) e =
    let all = and_parts (nat_lt one.thread id.thread) (list_all (λ other. nat_lt one.thread other.thread) ids) e in
    let less = ltb-true one.thread id.thread all.0 in
    ((λ same. absurd (omega (arith, less, same))), lesser_apart one ids all.1)

-- the events of a cycle are of different threads
pub cycle_apart : (window : WindowForm) (ids : List EventId) → is_cycle window ids ≡ true → Pairwise OfOther ids
cycle_apart window [] e = cc
cycle_apart window (first ∷ rest) e =
    let told = cycle_told window first rest e in
    (lesser_apart first rest told.least, pairs_apart rest told.apart)

got_earlier : (events : List Event) (index later : ℕ) (event : Event) → index < later → slice_get events later ≡ Some event
    → (other : Event) × (slice_get events index ≡ Some other)
got_earlier [] index later event less e = cc
got_earlier (first ∷ events) zero later event less e = (first, refl)
got_earlier (first ∷ events) (suc index) zero event less e = absurd (omega (arith, less))
got_earlier (first ∷ events) (suc index) (suc later) event less e = got_earlier events index later event (omega (arith, less)) e

-- the event before one that is there
pub there_before : (window : WindowForm) (thread index later : ℕ) → index < later → IsEventOf window (event_id thread later) → IsEventOf window (event_id thread index)
there_before window thread index later less there = got_earlier (segment_of window thread) index later there.0 less there.1
