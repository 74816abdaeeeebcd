-- The sleep of a wake among the points, and the first wake without one.
use Rattle.std.proofs.Common.{ℕ, ◌≡◌, ap, sym, ◌∙◌, refl, subst, inl, inr, List, [], ◌∷◌, Bool, true, arith}
use Rattle.std.specs.Prelude.{Contains, find, is_some, None, not, Option, Some, slice_get}
use Rattle.std.proofs.lemmas.Bool.{cases_Bool, false≢true}
use Rattle.gp_base.specs.FilterLaws.{contains_filter, contains_from_filter, pairwise_filter}
use Rattle.gp_base.specs.ListLaws.{contains_found, first_or_rest, found_first, nothing_in}
use Rattle.gp_trace.specs.declared.event.Event.{Event}
use Rattle.gp_window.specs.declared.schedule.EventId.{EventId}
use Rattle.gp_window.specs.Events.{event_at, segment_of}
use Rattle.gp_window.specs.WindowForm.{WindowForm}
use Rattle.gp_constraint.specs.declared.point.Point.{Point}
use Rattle.gp_constraint.specs.PointLaws.{event_id, HasLesserNumber, IsEventOf, point_for, point_there, points_named, points_rise}
use Rattle.gp_constraint.specs.Points.{number_in, points_of}
use Rattle.gp_notify.specs.declared.call.Call.{Call}
use Rattle.gp_notify.specs.declared.call.Call.TheVariants.{Sleep, Wake}
use Rattle.gp_notify.specs.Calls.{call_at, call_in, is_wake, Wakes}
use Rattle.gp_notify.specs.Laws.{HasSleep, SleepsAreFound, SleepsAreScanned}
use Rattle.gp_notify.specs.Signalled.{IsSleepOf}
use Rattle.gp_notify.specs.Signals.{point_before, sleep_of, wakes_of}
use Rattle.gp_notify.specs.Sleeping.{sleep_for, slept_at}
use Rattle.gp_notify.proofs.Called.{wake_is}

-- what has a call is an event
call_event : (o : Option Event) (call : Call) → call_in o ≡ Some call → (event : Event) × (o ≡ Some event)
call_event None call e = cc
call_event (Some event) call e = (event, refl)

pub call_of_event : (window : WindowForm) (id : EventId) (call : Call) → call_at window id ≡ Some call → IsEventOf window id
call_of_event window id call e = call_event (event_at window id) call e

pub number_is : (window : WindowForm) (p : Point) → Contains (points_of window) p → p.number ≡ number_in window p.id
number_is window p i = ((points_named window).own p i).3

-- a wake is one of the points, and wakes
pub record IsWake (window : WindowForm) (w : Point) : Type 0 where
  pub in_w : Contains (points_of window) w
  pub condition : List ℕ
  pub wakes : Wakes window condition w.id

pub wake_of : (window : WindowForm) (w : Point) → Contains (wakes_of window) w → IsWake window w
wake_of window w i =
    let parts = contains_from_filter (λ (p : Point). is_wake (call_at window p.id)) (points_of window) w i in
    let is = wake_is window w.id parts.1 in
    record { in_w = parts.0; condition = is.0; wakes = is.1 }

pub in_wakes : (window : WindowForm) (condition : List ℕ) (w : Point) → Contains (points_of window) w → Wakes window condition w.id → Contains (wakes_of window) w
in_wakes window condition w i wakes =
    contains_filter (λ (p : Point). is_wake (call_at window p.id)) (points_of window) w i (ap is_wake wakes)

-- the look back from a wake
looked : (window : WindowForm) (condition : List ℕ) (w : Point) → Wakes window condition w.id
    → sleep_of window w ≡ point_before window w (slept_at condition (segment_of window w.id.thread) w.id.index)
looked window condition w wakes = ap (λ call. point_before window w (sleep_for window w.id call)) wakes

there_is : (window : WindowForm) (condition : List ℕ) (w s : Point) (found : Option ℕ) → SleepsAreScanned
    → slept_at condition (segment_of window w.id.thread) w.id.index ≡ found → point_before window w found ≡ Some s
    → Contains (points_of window) s × IsSleepOf window condition w.id s.id
there_is window condition w s None scanned is e = cc
there_is window condition w s (Some index) scanned is e =
    let id : EventId = event_id w.id.thread index in
    let own : IsSleepOf window condition w.id id = (scanned window condition w.id id).1 (refl, is) in
    let p = point_for window id (call_of_event window id (Sleep condition) own.sleeps) in
    let at : slice_get (points_of window) (number_in window id) ≡ Some p.0 = subst (λ n. slice_get (points_of window) n ≡ Some p.0) p.2 (point_there window p.0 p.1) in
    let both : ◌≡◌ {A = Option Point} (Some p.0) (Some s) = sym at ∙ e in
    let same : p.0 ≡ s = cc in (
      subst (Contains (points_of window)) same p.1,
      subst (λ (x : Point). IsSleepOf window condition w.id x.id) same (subst (IsSleepOf window condition w.id) (sym p.3) own),
    )

-- the point that is found is that of the sleep
pub sleep_is : SleepsAreScanned → (window : WindowForm) (condition : List ℕ) (w s : Point) → Wakes window condition w.id → sleep_of window w ≡ Some s
    → Contains (points_of window) s × IsSleepOf window condition w.id s.id
sleep_is scanned window condition w s wakes e =
    there_is window condition w s (slept_at condition (segment_of window w.id.thread) w.id.index) scanned refl (sym (looked window condition w wakes) ∙ e)

-- and the sleep is found
pub record IsFoundSleep (window : WindowForm) (w : Point) (sleep : EventId) : Type 0 where
  pub point : Point
  pub found : sleep_of window w ≡ Some point
  pub is : point.id ≡ sleep

pub sleep_found : SleepsAreScanned → (window : WindowForm) (condition : List ℕ) (w : Point) (sleep : EventId) → Wakes window condition w.id → IsSleepOf window condition w.id sleep
    → IsFoundSleep window w sleep
sleep_found scanned window condition w sleep wakes own =
    let back = (scanned window condition w.id sleep).0 own in
    let p = point_for window sleep (call_of_event window sleep (Sleep condition) own.sleeps) in
    let id : sleep ≡ event_id w.id.thread sleep.index = (λ i. record { thread = back.0 i; index = sleep.index }) in
    let at : slice_get (points_of window) (number_in window (event_id w.id.thread sleep.index)) ≡ Some p.0 =
    subst (λ (e : EventId). slice_get (points_of window) (number_in window e) ≡ Some p.0) id
    (subst (λ n. slice_get (points_of window) n ≡ Some p.0) p.2 (point_there window p.0 p.1)) in
    record { point = p.0; found = looked window condition w wakes ∙ ap (point_before window w) back.1 ∙ at; is = p.3 }

-- nothing that passes is in a list in which nothing is found
pub find_none : (test : Point → Bool) (points : List Point) (p : Point) → find test points ≡ None → Contains points p → test p ≡ true → ⊥
find_none test [] p e i passes = absurd (nothing_in p i)
find_none test (q ∷ points) p e i passes =
    elim (cases_Bool (test q)) [
      | inl here ↦ let bad : ◌≡◌ {A = Option Point} (Some q) None = rw here at e in cc
      | inr fails ↦ elim (first_or_rest q points p i) [
        | inl same ↦ absurd (false≢true (sym fails ∙ ap test same ∙ passes))
        | inr rest ↦ find_none test points p (rw fails at e) rest passes
      ]
    ]

abbrev sleepless : WindowForm → Point → Bool
sleepless window w = not (is_some (sleep_of window w))

-- a wake for which no sleep is found has none, and one for which some is found has that
has_where : SleepsAreScanned → (window : WindowForm) (condition : List ℕ) (w : Point) (found : Option Point) → Wakes window condition w.id → sleep_of window w ≡ found
    → (not (is_some found) ≡ true → ⊥) → HasSleep window condition w.id
has_where scanned window condition w None wakes e some = absurd (some refl)
has_where scanned window condition w (Some s) wakes e some = (s.id, (sleep_is scanned window condition w s wakes e).1)

none_where : (window : WindowForm) (w : Point) (found : Option Point) (sleep : EventId) → sleep_of window w ≡ found → not (is_some found) ≡ true → IsFoundSleep window w sleep → ⊥
none_where window w (Some s) sleep e none f = absurd (false≢true none)
none_where window w None sleep e none f = let bad : ◌≡◌ {A = Option Point} None (Some f.point) = sym e ∙ f.found in cc

pub sleeps_found : SleepsAreScanned → SleepsAreFound
sleeps_found scanned = record {
  all = λ window none wake condition wakes.
      let p = point_for window wake (call_of_event window wake (Wake condition) wakes) in
      let own : Wakes window condition p.0.id = subst (Wakes window condition) (sym p.3) wakes in
      let has = has_where scanned window condition p.0 (sleep_of window p.0) own refl (λ fails.
      find_none (sleepless window) (wakes_of window) p.0 none (in_wakes window condition p.0 p.1 own) fails) in
      subst (HasSleep window condition) p.3 has;
  first = λ window p found.
      let parts = contains_found (sleepless window) (wakes_of window) p found in
      let is = wake_of window p parts.0 in
      record {
        condition = is.condition;
        wakes = is.wakes;
        none = λ has. none_where window p (sleep_of window p) has.0 refl parts.1 (sleep_found scanned window is.condition p has.0 is.wakes has.1);
        others = λ wake other wakes less.
            let q = point_for window wake (call_of_event window wake (Wake other) wakes) in
            let own : Wakes window other q.0.id = subst (Wakes window other) (sym q.3) wakes in
            let number_p = number_is window p is.in_w in
            let number_q = q.2 in
            let has = has_where scanned window other q.0 (sleep_of window q.0) own refl (λ fails.
            elim (found_first HasLesserNumber (sleepless window) (wakes_of window) p q.0
            (pairwise_filter HasLesserNumber (λ (x : Point). is_wake (call_at window x.id)) (points_of window) (points_rise window)) found (in_wakes window other q.0 q.1 own) fails) [
              | inl same ↦ let numbers = ap (λ (x : Point). x.number) same in absurd (omega (arith, numbers, number_p, number_q, less))
              | inr more ↦ absurd (omega (arith, more, number_p, number_q, less))
            ]) in
            subst (HasSleep window other) q.3 has;
      };
}
