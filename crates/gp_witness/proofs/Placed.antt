-- The places that a feasible schedule gives.
use Rattle.std.proofs.Common.{ℕ, zero, suc, ℤ, pos, ◌≡◌, ◌+◌, ◌<◌, ◌<ℤ◌, ap, refl, inl, inr, List, [], ◌∷◌, length, map, true, false, arith}
use Rattle.std.specs.Prelude.{Some, slice_get, unwrap_or}
use Rattle.std.proofs.lemmas.Bool.{cases_Bool}
use Rattle.std.proofs.lemmas.Int.{ints}
use Rattle.std.proofs.lemmas.Option.{slice_get_within}
use Rattle.gp_trace.specs.declared.event.Event.{Event}
use Rattle.gp_window.specs.declared.schedule.EventId.{EventId}
use Rattle.gp_window.specs.WindowForm.{WindowForm}
use Rattle.gp_window.specs.Ids.{contains_event}
use Rattle.gp_replay.specs.Feasible.{IsFeasible}
use Rattle.gp_constraint.specs.Points.{first_of, number_in}
use Rattle.gp_constraint.specs.PointLaws.{IsEventOf}
use Rattle.gp_constraint.specs.StandingLaws.{before_absent, before_apart, before_in, before_shorter, before_within, shorter_before}
use Rattle.gp_witness.specs.Meaning.{PlacesDiffer, PlacesRise, Precedes, ThreadsRun}
use Rattle.gp_witness.specs.ScheduleTruth.{before_of, late, schedule_place, schedule_truth}
use Rattle.gp_witness.proofs.Done.{done_before, happened}

-- places of numbers
pub less_pos : (x y : ℕ) → x < y → pos x <ℤ pos y
less_pos x y less = omega (arith, ints, less)

pub less_back : (x y : ℕ) → pos x <ℤ pos y → x < y
less_back x y less = omega (arith, ints, less)

pub same_pos : (x y : ℕ) → ◌≡◌ {A = ℤ} (pos x) (pos y) → x ≡ y
same_pos x y e = cc

-- the numbers of a thread's events rise
number_rises : (window : WindowForm) (thread i j : ℕ) → i < j
    → number_in window (record { thread = thread; index = i }) < number_in window (record { thread = thread; index = j })
number_rises window zero i j less = less
number_rises window (suc place) i j less = omega (arith, less)

-- events with one number are one event
number_at_differs : (segments : List (List Event)) (p q i j : ℕ) (one other : Event)
    → slice_get (unwrap_or (slice_get segments p) []) i ≡ Some one → slice_get (unwrap_or (slice_get segments q) []) j ≡ Some other
    → first_of (map (λ segment. length segment) segments) p + i ≡ first_of (map (λ segment. length segment) segments) q + j → (p ≡ q) × (i ≡ j)
number_at_differs [] p q i j one other first second same = cc
number_at_differs (segment ∷ segments) zero zero i j one other first second same = (refl, omega (arith, same))
number_at_differs (segment ∷ segments) zero (suc q) i j one other first second same =
    let below = slice_get_within segment i one first in absurd (omega (arith, below, same))
number_at_differs (segment ∷ segments) (suc p) zero i j one other first second same =
    let below = slice_get_within segment j other second in absurd (omega (arith, below, same))
number_at_differs (segment ∷ segments) (suc p) (suc q) i j one other first second same =
    let rest = number_at_differs segments p q i j one other first second (omega (arith, same)) in (ap suc rest.0, rest.1)

number_differs : (window : WindowForm) (s t i j : ℕ) → IsEventOf window (record { thread = s; index = i }) → IsEventOf window (record { thread = t; index = j })
    → number_in window (record { thread = s; index = i }) ≡ number_in window (record { thread = t; index = j }) → (s ≡ t) × (i ≡ j)
number_differs window zero t i j first second same = let there = first.1 in cc
number_differs window (suc p) zero i j first second same = let there = second.1 in cc
number_differs window (suc p) (suc q) i j first second same =
    let rest = number_at_differs window.segments p q i j first.0 second.0 first.1 second.1 same in (ap suc rest.0, rest.1)

-- the place of an event that is executed, and of one that is not
pub place_executed : (window : WindowForm) (ids : List EventId) (e : EventId) → contains_event ids e ≡ true → schedule_place window ids e ≡ length (before_of ids e)
place_executed window ids e is = let none : late window (contains_event ids e) e ≡ 0 = ap (λ b. late window b e) is in omega (arith, none)

pub place_absent : (window : WindowForm) (ids : List EventId) (e : EventId) → contains_event ids e ≡ false → schedule_place window ids e ≡ length ids + number_in window e
place_absent window ids e is =
    let some : late window (contains_event ids e) e ≡ number_in window e = ap (λ b. late window b e) is in
    let all : length (before_of ids e) ≡ length ids = ap length (before_absent ids e is) in
    omega (arith, some, all)

-- what stands before an executed event is executed, at a lesser place
pub precedes : (window : WindowForm) (ids : List EventId) (e f : EventId) → contains_event ids f ≡ true → contains_event (before_of ids f) e ≡ true → Precedes (schedule_truth window ids) e f
precedes window ids e f is_f before =
    let is_e = before_in ids e f before in
    let at_e = place_executed window ids e is_e in
    let at_f = place_executed window ids f is_f in
    let less = before_shorter ids e f before in
    (is_e, less_pos (schedule_place window ids e) (schedule_place window ids f) (omega (arith, at_e, at_f, less)))

-- what has a lesser place than an executed event stands before it
pub stands_before : (window : WindowForm) (ids : List EventId) (e f : EventId) → contains_event ids e ≡ true → contains_event ids f ≡ true
    → schedule_place window ids e < schedule_place window ids f → contains_event (before_of ids f) e ≡ true
stands_before window ids e f is_e is_f less =
    let at_e = place_executed window ids e is_e in
    let at_f = place_executed window ids f is_f in
    shorter_before ids e f (omega (arith, at_e, at_f, less))

pub numbers_differ : (window : WindowForm) (ids : List EventId) (e f : EventId) → IsEventOf window e → IsEventOf window f
    → schedule_place window ids e ≡ schedule_place window ids f → e ≡ f
numbers_differ window ids e f event_e event_f same =
    elim (cases_Bool (contains_event ids e)) [
      | inl is_e ↦
          let at_e = place_executed window ids e is_e in
          let within = before_within ids e is_e in
          elim (cases_Bool (contains_event ids f)) [
            | inl is_f ↦ let at_f = place_executed window ids f is_f in before_apart ids e f is_e is_f (omega (arith, at_e, at_f, same))
            | inr no_f ↦ let at_f = place_absent window ids f no_f in absurd (omega (arith, at_e, at_f, same, within))
          ]
      | inr no_e ↦
          let at_e = place_absent window ids e no_e in
          elim (cases_Bool (contains_event ids f)) [
            | inl is_f ↦
                let at_f = place_executed window ids f is_f in
                let within = before_within ids f is_f in
                absurd (omega (arith, at_e, at_f, same, within))
            | inr no_f ↦
                let at_f = place_absent window ids f no_f in
                let parts = number_differs window e.thread f.thread e.index f.index event_e event_f (omega (arith, at_e, at_f, same)) in
                λ i. record { thread = parts.0 i; index = parts.1 i }
          ]
    ]

pub places_differ : (window : WindowForm) (ids : List EventId) → PlacesDiffer window (schedule_truth window ids)
places_differ window ids e f event_e event_f same =
    numbers_differ window ids e f event_e event_f (same_pos (schedule_place window ids e) (schedule_place window ids f) same)

pub threads_run : (window : WindowForm) (ids : List EventId) → IsFeasible window ids → ThreadsRun window (schedule_truth window ids)
threads_run window ids feasible e f event_e event_f same below is_f =
    before_in ids e f (done_before window ids e f (happened window ids f feasible is_f) same below)

pub rises : (window : WindowForm) (ids : List EventId) → IsFeasible window ids → (e f : EventId) → e.thread ≡ f.thread → e.index < f.index
    → schedule_place window ids e < schedule_place window ids f
rises window ids feasible e f same below =
    elim (cases_Bool (contains_event ids f)) [
      | inl is_f ↦
          let comes = precedes window ids e f is_f (done_before window ids e f (happened window ids f feasible is_f) same below) in
          less_back (schedule_place window ids e) (schedule_place window ids f) comes.1
      | inr no_f ↦
          let at_f = place_absent window ids f no_f in
          elim (cases_Bool (contains_event ids e)) [
            | inl is_e ↦
                let at_e = place_executed window ids e is_e in
                let within = before_within ids e is_e in
                omega (arith, at_e, at_f, within)
            | inr no_e ↦
                let at_e = place_absent window ids e no_e in
                let rises = number_rises window f.thread e.index f.index below in
                let own : number_in window e ≡ number_in window (record { thread = f.thread; index = e.index }) =
                ap (λ t. number_in window (record { thread = t; index = e.index })) same in
                omega (arith, at_e, at_f, rises, own)
          ]
    ]

pub places_rise : (window : WindowForm) (ids : List EventId) → IsFeasible window ids → PlacesRise window (schedule_truth window ids)
places_rise window ids feasible e f event_e event_f same below =
    less_pos (schedule_place window ids e) (schedule_place window ids f) (rises window ids feasible e f same below)
