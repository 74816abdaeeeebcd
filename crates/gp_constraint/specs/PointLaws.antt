-- Laws: the points of a window are its events, each at its number.
use Rattle.std.specs.Prelude.{ℕ, zero, suc, ◌≡◌, ◌+◌, ◌<◌, List, [], ◌∷◌, ◌++◌, Option, Some, length, map, slice_get, unwrap_or, Contains}
use Rattle.std.proofs.Common.{ap, sym, ◌∙◌, refl, subst, inl, inr, arith}
use Rattle.std.proofs.lemmas.List.Elements.{Contains-append_left, Contains-append_right, Contains-append_cases}
use Rattle.gp_trace.specs.declared.event.Event.{Event}
use Rattle.gp_window.specs.Events.{event_at}
use Rattle.gp_window.specs.WindowForm.{WindowForm}
use Rattle.gp_window.specs.declared.schedule.EventId.{EventId}
use Rattle.gp_constraint.specs.Action.{action_of}
use Rattle.gp_base.specs.ListLaws.{first_or_rest, nothing_in, Pairwise, pairwise_append, recursion_from_each, there}
use Rattle.gp_constraint.specs.Points.{first_of, number_at, number_in, points_from, points_in, points_of, sizes_of}
use Rattle.gp_constraint.specs.declared.point.Point.{Point}

-- the id of this thread and index
abbrev pub event_id : ℕ → ℕ → EventId
event_id thread index = record { thread = thread; index = index }

-- the point of an event at a number
abbrev pub point : ℕ → ℕ → ℕ → Event → Point
point number thread index event = record { number = number; id = event_id thread index; action = action_of event }

-- there is an event of this id in the window
abbrev pub IsEventOf : WindowForm → EventId → Type 0
IsEventOf window id = (event : Event) × (event_at window id ≡ Some event)

-- the points are just the events of the window, each with its number, and the numbers of a thread count on
pub record ArePoints (window : WindowForm) (number : EventId → ℕ) (points : List Point) : Type 0 where
  pub all : (id : EventId) (event : Event) → event_at window id ≡ Some event → Contains points (record { number = number id; id = id; action = action_of event })
  pub own : (p : Point) → Contains points p → (event : Event) × (event_at window p.id ≡ Some event) × (p.action ≡ action_of event) × (p.number ≡ number p.id)
  pub next : (thread index : ℕ) → number (event_id thread (suc index)) ≡ suc (number (event_id thread index))

in_segment : (thread from number : ℕ) (events : List Event) (at : ℕ) (event : Event) (n index : ℕ) → slice_get events at ≡ Some event
    → n ≡ number + at → index ≡ from + at → Contains (points_in thread from number events) (point n thread index event)
in_segment thread from number [] at event n index there numbered placed = cc
in_segment thread from number (first ∷ events) zero event n index there numbered placed =
    let is : first ≡ event = cc in
    let same : number ≡ n = omega arith in
    let here : from ≡ index = omega arith in
    (0, omega arith, ap (λ m. point m thread from first) same ∙ ap (λ i. point n thread i first) here ∙ ap (point n thread index) is)
in_segment thread from number (first ∷ events) (suc at) event n index got numbered placed =
    there _ _ _ (in_segment thread (suc from) (suc number) events at event n index got (omega arith) (omega arith))

in_segments : (thread number : ℕ) (segments : List (List Event)) (place index : ℕ) (event : Event) (t n : ℕ) → slice_get (unwrap_or (slice_get segments place) []) index ≡ Some event
    → t ≡ thread + place → n ≡ number + first_of (map (λ segment. length segment) segments) place + index → Contains (points_from thread number segments) (point n t index event)
in_segments thread number [] place index event t n there threaded numbered = cc
in_segments thread number (segment ∷ segments) zero index event t n there threaded numbered =
    let same : thread ≡ t = omega arith in
    subst (λ (u : ℕ). Contains (points_from thread number (segment ∷ segments)) (point n u index event)) same
    (Contains-append_left (points_in thread 0 number segment) (points_from (suc thread) (number + length segment) segments) (point n thread index event)
    (in_segment thread 0 number segment index event n index there (omega arith) (omega arith)))
in_segments thread number (segment ∷ segments) (suc place) index event t n there threaded numbered =
    Contains-append_right (points_in thread 0 number segment) (points_from (suc thread) (number + length segment) segments) (point n t index event)
    (in_segments (suc thread) (number + length segment) segments place index event t n there (omega arith) (omega arith))

-- where a point of a segment stands
record IsAt (thread from number : ℕ) (events : List Event) (p : Point) : Type 0 where
  at : ℕ
  event : Event
  there : slice_get events at ≡ Some event
  action_is : p.action ≡ action_of event
  thread_is : p.id.thread ≡ thread
  index_is : p.id.index ≡ from + at
  number_is : p.number ≡ number + at

from_segment : (thread from number : ℕ) (events : List Event) (p : Point) → Contains (points_in thread from number events) p → IsAt thread from number events p
from_segment thread from number [] p i = absurd (nothing_in _ i)
from_segment thread from number (first ∷ events) p i =
    elim (first_or_rest _ _ _ i) [
      | inl same ↦
          let index = ap (λ (q : Point). q.id.index) same in
          let numbers = ap (λ (q : Point). q.number) same in
          record {
            at = 0;
            event = first;
            there = refl;
            action_is = sym (ap (λ (q : Point). q.action) same);
            thread_is = sym (ap (λ (q : Point). q.id.thread) same);
            index_is = omega (arith, index);
            number_is = omega (arith, numbers);
          }
      | inr i ↦
          let rest = from_segment thread (suc from) (suc number) events p i in
          let index = rest.index_is in
          let numbers = rest.number_is in
          record {
            at = suc rest.at;
            event = rest.event;
            there = rest.there;
            action_is = rest.action_is;
            thread_is = rest.thread_is;
            index_is = omega (arith, index);
            number_is = omega (arith, numbers);
          }
    ]

record IsAmong (thread number : ℕ) (segments : List (List Event)) (p : Point) : Type 0 where
  place : ℕ
  event : Event
  there : slice_get (unwrap_or (slice_get segments place) []) p.id.index ≡ Some event
  action_is : p.action ≡ action_of event
  thread_is : p.id.thread ≡ thread + place
  number_is : p.number ≡ number + first_of (map (λ segment. length segment) segments) place + p.id.index

from_segments : (thread number : ℕ) (segments : List (List Event)) (p : Point) → Contains (points_from thread number segments) p → IsAmong thread number segments p
from_segments thread number [] p i = absurd (nothing_in _ i)
from_segments thread number (segment ∷ segments) p i =
    elim (Contains-append_cases (points_in thread 0 number segment) (points_from (suc thread) (number + length segment) segments) p i) [
      | inl here ↦
          let f = from_segment thread 0 number segment p here in
          let threads = f.thread_is in
          let index = f.index_is in
          let numbers = f.number_is in
          let same : f.at ≡ p.id.index = omega (arith, index) in
          record {
            place = 0;
            event = f.event;
            there = subst (λ (n : ℕ). slice_get segment n ≡ Some f.event) same f.there;
            action_is = f.action_is;
            thread_is = omega (arith, threads);
            number_is = omega (arith, numbers, index);
          }
      | inr later ↦
          let f = from_segments (suc thread) (number + length segment) segments p later in
          let threads = f.thread_is in
          let numbers = f.number_is in
          record {
            place = suc f.place;
            event = f.event;
            there = f.there;
            action_is = f.action_is;
            thread_is = omega (arith, threads);
            number_is = omega (arith, numbers);
          }
    ]

point_all : (window : WindowForm) (thread index : ℕ) (event : Event) → event_at window (event_id thread index) ≡ Some event
    → Contains (points_of window) (point (number_at (sizes_of window) thread index) thread index event)
point_all window zero index event there = cc
point_all window (suc place) index event there =
    in_segments 1 0 window.segments place index event (suc place) (first_of (sizes_of window) place + index) there (omega arith) (omega arith)

-- the numbers of a thread count on
pub next_number : (sizes : List ℕ) (thread index : ℕ) → number_at sizes thread (suc index) ≡ suc (number_at sizes thread index)
next_number sizes zero index = refl
next_number sizes (suc place) index = omega arith

point_own : (window : WindowForm) (p : Point) → Contains (points_of window) p → (event : Event) × (event_at window p.id ≡ Some event) × (p.action ≡ action_of event) × (p.number ≡ number_in window p.id)
point_own window p i =
    let f = from_segments 1 0 window.segments p i in
    let threads = f.thread_is in
    let numbers = f.number_is in
    let own : suc f.place ≡ p.id.thread = omega (arith, threads) in
    let told : p.number ≡ number_at (sizes_of window) (suc f.place) p.id.index = omega (arith, numbers) in (
      f.event,
      subst (λ (n : ℕ). event_at window (event_id n p.id.index) ≡ Some f.event) own f.there,
      f.action_is,
      subst (λ (n : ℕ). p.number ≡ number_at (sizes_of window) n p.id.index) own told,
    )

-- the points of a window are its events
pub points_named : (window : WindowForm) → ArePoints window (number_in window) (points_of window)
points_named window = record {
  all = λ id event there. point_all window id.thread id.index event there;
  own = point_own window;
  next = λ thread index. next_number (sizes_of window) thread index;
}

-- where a point stands in a list of points whose numbers count on from this one
record IsPlaced (number : ℕ) (points : List Point) (p : Point) : Type 0 where
  at : ℕ
  is : p.number ≡ number + at
  there : slice_get points at ≡ Some p

got_left : (xs ys : List Point) (k : ℕ) (p : Point) → slice_get xs k ≡ Some p → slice_get (xs ++ ys) k ≡ Some p
got_left [] ys k p e = cc
got_left (x ∷ xs) ys zero p e = e
got_left (x ∷ xs) ys (suc k) p e = got_left xs ys k p e

got_right : (xs ys : List Point) (k n : ℕ) (p : Point) → n ≡ length xs + k → slice_get ys k ≡ Some p → slice_get (xs ++ ys) n ≡ Some p
got_right [] ys k n p size e = subst (λ (m : ℕ). slice_get ys m ≡ Some p) (omega (arith, size)) e
got_right (x ∷ xs) ys k zero p size e = absurd (omega (arith, size))
got_right (x ∷ xs) ys k (suc n) p size e = got_right xs ys k n p (omega (arith, size)) e

-- the points of a segment are as many as its events
pub size_in : (thread index number : ℕ) (events : List Event) → length (points_in thread index number events) ≡ length events
size_in thread index number [] = refl
size_in thread index number (event ∷ events) = ap suc (size_in thread (suc index) (suc number) events)

placed_in : (thread index number : ℕ) (events : List Event) (p : Point) → Contains (points_in thread index number events) p
    → IsPlaced number (points_in thread index number events) p
placed_in thread index number [] p i = absurd (nothing_in _ i)
placed_in thread index number (event ∷ events) p i =
    elim (first_or_rest _ _ _ i) [
      | inl same ↦
          let numbers = ap (λ (q : Point). q.number) same in
          record { at = 0; is = omega (arith, numbers); there = ap Some same }
      | inr i ↦
          let rest = placed_in thread (suc index) (suc number) events p i in
          let is = rest.is in
          record { at = suc rest.at; is = omega (arith, is); there = rest.there }
    ]

placed_from : (thread number : ℕ) (segments : List (List Event)) (p : Point) → Contains (points_from thread number segments) p
    → IsPlaced number (points_from thread number segments) p
placed_from thread number [] p i = absurd (nothing_in _ i)
placed_from thread number (segment ∷ segments) p i =
    let here : List Point = points_in thread 0 number segment in
    let later : List Point = points_from (suc thread) (number + length segment) segments in
    elim (Contains-append_cases here later p i) [
      | inl one ↦
          let f = placed_in thread 0 number segment p one in
          record { at = f.at; is = f.is; there = got_left here later f.at p f.there }
      | inr other ↦
          let f = placed_from (suc thread) (number + length segment) segments p other in
          let is = f.is in
          let size = size_in thread 0 number segment in
          record {
            at = length segment + f.at;
            is = omega (arith, is);
            there = got_right here later f.at (length segment + f.at) p (omega (arith, size)) f.there;
          }
    ]

-- the numbers of points rise
abbrev pub HasLesserNumber : Point → Point → Type 0
HasLesserNumber p q = p.number < q.number

rising_in : (thread index number : ℕ) (events : List Event) → Pairwise HasLesserNumber (points_in thread index number events)
rising_in thread index number [] = tt
rising_in thread index number (event ∷ events) = (
  recursion_from_each (HasLesserNumber (point number thread index event)) (points_in thread (suc index) (suc number) events) (λ q i.
      let f = placed_in thread (suc index) (suc number) events q i in
      let is = f.is in
      omega (arith, is)),
  rising_in thread (suc index) (suc number) events,
)

below_in : (thread index number : ℕ) (events : List Event) (p : Point) → Contains (points_in thread index number events) p → p.number < number + length events
below_in thread index number [] p i = absurd (nothing_in _ i)
below_in thread index number (event ∷ events) p i =
    elim (first_or_rest _ _ _ i) [
      | inl same ↦ let numbers = ap (λ (q : Point). q.number) same in omega (arith, numbers)
      | inr i ↦ let rest = below_in thread (suc index) (suc number) events p i in omega (arith, rest)
    ]

rising_from : (thread number : ℕ) (segments : List (List Event)) → Pairwise HasLesserNumber (points_from thread number segments)
rising_from thread number [] = tt
rising_from thread number (segment ∷ segments) =
    pairwise_append HasLesserNumber (points_in thread 0 number segment) (points_from (suc thread) (number + length segment) segments)
    (rising_in thread 0 number segment) (rising_from (suc thread) (number + length segment) segments) (λ p q i j.
    let below = below_in thread 0 number segment p i in
    let f = placed_from (suc thread) (number + length segment) segments q j in
    let is = f.is in
    omega (arith, below, is))

pub points_rise : (window : WindowForm) → Pairwise HasLesserNumber (points_of window)
points_rise window = rising_from 1 0 window.segments

got_within : (xs : List Point) (k : ℕ) (p : Point) → slice_get xs k ≡ Some p → k < length xs
got_within [] k p e = cc
got_within (x ∷ xs) zero p e = omega arith
got_within (x ∷ xs) (suc k) p e = let rest = got_within xs k p e in omega (arith, rest)

-- a point stands at its number
pub point_there : (window : WindowForm) (p : Point) → Contains (points_of window) p → slice_get (points_of window) p.number ≡ Some p
point_there window p i =
    let f = placed_from 1 0 window.segments p i in
    let is = f.is in
    let same : f.at ≡ p.number = omega (arith, is) in
    subst (λ (n : ℕ). slice_get (points_of window) n ≡ Some p) same f.there

-- a point's number is below the number of points
pub point_within : (window : WindowForm) (p : Point) → Contains (points_of window) p → p.number < length (points_of window)
point_within window p i = got_within (points_of window) p.number p (point_there window p i)

-- points of one number are one
pub one_point : (window : WindowForm) (p q : Point) → Contains (points_of window) p → Contains (points_of window) q → p.number ≡ q.number → p ≡ q
one_point window p q i j same =
    let first = subst (λ (n : ℕ). slice_get (points_of window) n ≡ Some p) same (point_there window p i) in
    let both : ◌≡◌ {A = Option Point} (Some p) (Some q) = sym first ∙ point_there window q j in
    cc

-- the point of an event
pub point_for : (window : WindowForm) (id : EventId) → IsEventOf window id → (p : Point) × Contains (points_of window) p × (p.number ≡ number_in window id) × (p.id ≡ id)
point_for window id (event, there) =
    (record { number = number_in window id; id = id; action = action_of event }, (points_named window).all id event there, refl, refl)

-- events of one number are one
pub same_event : (window : WindowForm) (a b : EventId) → IsEventOf window a → IsEventOf window b → number_in window a ≡ number_in window b → a ≡ b
same_event window a b one other same =
    let p = point_for window a one in
    let q = point_for window b other in
    sym p.3 ∙ ap (λ (r : Point). r.id) (one_point window p.0 q.0 p.1 q.1 (p.2 ∙ same ∙ sym q.2)) ∙ q.3

-- an event's number is below the number of points
pub event_below : (window : WindowForm) (id : EventId) → IsEventOf window id → number_in window id < length (points_of window)
event_below window id one =
    let p = point_for window id one in
    subst (λ (n : ℕ). n < length (points_of window)) p.2 (point_within window p.0 p.1)
