-- The code's ways to the sleep of a wake, to the signals that it may take, and to the wakes that may take a signal.
use Rattle.std.proofs.Common.{ℕ, zero, suc, ◌≡◌, ◌<◌, ◌≤◌, ◌-◌, ap, sym, ◌∙◌, refl, inl, inr, List, [], Bool, true, false, arith}
use Rattle.std.specs.Prelude.{◌==◌, ◌&&◌, Contains, filter, None, not, Option, slice_get, Some}
use Rattle.std.specs.Str.{bytes_eq}
use Rattle.std.proofs.lemmas.Bool.{cases_Bool, eqb-true, eq-eqb, false≢true}
use Rattle.std.proofs.lemmas.List.Elements.{filter_agree}
use Rattle.std.proofs.lemmas.Slice.Eq.{bytes_eq-Decides}
use Rattle.gp_base.specs.FilterLaws.{filter-filter, filter_none}
use Rattle.gp_trace.specs.declared.event.Event.{Event}
use Rattle.gp_window.specs.declared.schedule.EventId.{EventId}
use Rattle.gp_window.specs.Events.{segment_of}
use Rattle.gp_window.specs.WindowForm.{WindowForm}
use Rattle.gp_constraint.specs.declared.point.Point.{Point}
use Rattle.gp_constraint.specs.Points.{number_at, points_of, sizes_of}
use Rattle.gp_notify.specs.declared.call.Call.{Call}
use Rattle.gp_notify.specs.declared.call.Call.TheVariants.{Notify, NotifyAll, Sleep, Wake}
use Rattle.gp_notify.specs.Calls.{call_at, call_in, is_wake, signals_for, signals_on, wakes_from}
use Rattle.gp_notify.specs.CallTables.{signals_in, wakes_on}
use Rattle.gp_notify.specs.Signals.{may_take, point_before, signals_to, sleep_of, takers_of, wakes_of}
use Rattle.gp_notify.specs.Sleeping.{sleep_for, sleep_index, slept_at, turned}
use Rattle.gp_notify.proofs.Called.{same_bytes}
use Rattle.gp_notify.proofs.Sleeps.{number_is}

-- the look back finds an index below that at which it begins
turned_below : (condition : List ℕ) (call : Option Call) (index found : ℕ) (rest : Option ℕ) → turned condition call index rest ≡ Some found
    → (rest ≡ Some found → found < index) → found < suc index
turned_below condition (Some (Sleep other)) index found rest e h =
    elim (cases_Bool (bytes_eq condition other)) [
      | inl own ↦
          let both : ◌≡◌ {A = Option ℕ} (Some index) (Some found) = rw own at e in
          let same : index ≡ found = cc in
          omega (arith, same)
      | inr fails ↦ let less = h (rw fails at e) in omega (arith, less)
    ]
turned_below condition (Some (Wake other)) index found rest e h =
    elim (cases_Bool (bytes_eq condition other)) [
      | inl own ↦ let bad : ◌≡◌ {A = Option ℕ} None (Some found) = rw own at e in cc
      | inr fails ↦ let less = h (rw fails at e) in omega (arith, less)
    ]
turned_below condition (Some (Notify other)) index found rest e h = let less = h e in omega (arith, less)
turned_below condition (Some (NotifyAll other)) index found rest e h = let less = h e in omega (arith, less)
turned_below condition None index found rest e h = let less = h e in omega (arith, less)

slept_below : (condition : List ℕ) (events : List Event) (index found : ℕ) → slept_at condition events index ≡ Some found → found < index
slept_below condition events zero found e = cc
slept_below condition events (suc index) found e =
    turned_below condition (call_in (slice_get events index)) index found (slept_at condition events index) e (slept_below condition events index found)

sleep_below : (window : WindowForm) (wake : EventId) (call : Option Call) (found : ℕ) → sleep_for window wake call ≡ Some found → found < wake.index
sleep_below window wake (Some (Wake condition)) found e = slept_below condition (segment_of window wake.thread) wake.index found e
sleep_below window wake (Some (Sleep condition)) found e = cc
sleep_below window wake (Some (Notify condition)) found e = cc
sleep_below window wake (Some (NotifyAll condition)) found e = cc
sleep_below window wake None found e = cc

-- numbers of a thread count on
number_back : (sizes : List ℕ) (thread one other : ℕ) → one ≤ other → number_at sizes thread other - (other - one) ≡ number_at sizes thread one
number_back sizes zero one other most = omega (arith, most)
number_back sizes (suc place) one other most = omega (arith, most)

-- the point of the sleep, by its number
pub sleep_at : (window : WindowForm) (points : List Point) (w : Point) (index : ℕ) → points ≡ points_of window → Contains (points_of window) w
    → sleep_index window w.id ≡ Some index → slice_get points (w.number - (w.id.index - index)) ≡ sleep_of window w
sleep_at window points w index all in_w e =
    let less = sleep_below window w.id (call_at window w.id) index e in
    let number : w.number ≡ number_at (sizes_of window) w.id.thread w.id.index = number_is window w in_w in
    ap (λ ps. slice_get ps (w.number - (w.id.index - index))) all
    ∙ ap (λ n. slice_get (points_of window) (n - (w.id.index - index))) number
    ∙ ap (slice_get (points_of window)) (number_back (sizes_of window) w.id.thread index w.id.index (omega (arith, less)))
    ∙ sym (ap (point_before window w) e)

bytes_turned : (a b : List ℕ) → bytes_eq a b ≡ bytes_eq b a
bytes_turned a b =
    elim (cases_Bool (bytes_eq a b)) [
      | inl one ↦ elim (cases_Bool (bytes_eq b a)) [
        | inl other ↦ one ∙ sym other
        | inr fails ↦ absurd (false≢true (sym fails ∙ (bytes_eq-Decides b a).1 (sym (same_bytes a b one))))
      ]
      | inr fails ↦ elim (cases_Bool (bytes_eq b a)) [
        | inl other ↦ absurd (false≢true (sym fails ∙ (bytes_eq-Decides a b).1 (sym (same_bytes b a other))))
        | inr too ↦ fails ∙ sym too
      ]
    ]

threads_turned : (a b : ℕ) → (a == b) ≡ (b == a)
threads_turned a b =
    elim (cases_Bool (a == b)) [
      | inl one ↦ one ∙ sym (eq-eqb b a (sym (eqb-true a b one)))
      | inr fails ↦ elim (cases_Bool (b == a)) [
        | inl other ↦ absurd (false≢true (sym fails ∙ eq-eqb a b (sym (eqb-true b a other))))
        | inr too ↦ fails ∙ sym too
      ]
    ]

-- a wake from this condition
wake_told : (condition : List ℕ) (call : Option Call) → wakes_from condition call ≡ true → call ≡ Some (Wake condition)
wake_told condition (Some (Wake other)) e = ap (λ c. Some (Wake c)) (same_bytes other condition e)
wake_told condition (Some (Sleep other)) e = cc
wake_told condition (Some (Notify other)) e = cc
wake_told condition (Some (NotifyAll other)) e = cc
wake_told condition None e = cc

no_signal : (call signal : Option Call) → ((condition : List ℕ) → wakes_from condition call ≡ false) → signals_for call signal ≡ false
no_signal (Some (Wake condition)) signal none = absurd (false≢true (sym (none condition) ∙ (bytes_eq-Decides condition condition).1 refl))
no_signal (Some (Sleep condition)) signal none = refl
no_signal (Some (Notify condition)) signal none = refl
no_signal (Some (NotifyAll condition)) signal none = refl
no_signal None signal none = refl

-- the signals of the condition of a wake that are another thread's
pub signals_here : (window : WindowForm) (w : Point) (condition : List ℕ) (signals : List Point)
    → ((other : List ℕ) → wakes_from other (call_at window w.id) ≡ bytes_eq condition other) → signals ≡ signals_in window (points_of window) condition
    → filter (λ (g : Point). not (g.id.thread == w.id.thread)) signals ≡ signals_to window w
signals_here window w condition signals wakes are =
    let call : call_at window w.id ≡ Some (Wake condition) =
    wake_told condition (call_at window w.id) (wakes condition ∙ (bytes_eq-Decides condition condition).1 refl) in
    ap (filter (λ (g : Point). not (g.id.thread == w.id.thread))) are
    ∙ filter-filter (λ (g : Point). signals_on condition (call_at window g.id)) (λ (g : Point). not (g.id.thread == w.id.thread)) (points_of window)
    ∙ ap (λ c. filter (λ (g : Point). signals_for c (call_at window g.id) && not (g.id.thread == w.id.thread)) (points_of window)) (sym call)

none_kept : (test : Point → Bool) (points : List Point) → ((p : Point) → test p ≡ false) → [] ≡ filter test points
none_kept test points h = sym (filter_agree test (λ p. false) h points ∙ filter_none points)

pub no_signals_here : (window : WindowForm) (w : Point) → ((other : List ℕ) → wakes_from other (call_at window w.id) ≡ false) → [] ≡ signals_to window w
no_signals_here window w none =
    none_kept (may_take window w) (points_of window) (λ g.
    let fails = no_signal (call_at window w.id) (call_at window g.id) none in rw fails refl)

-- a wake may take a signal of its condition
takes_where : (condition : List ℕ) (call signal : Option Call) → ((other : List ℕ) → signals_on other signal ≡ bytes_eq condition other)
    → wakes_from condition call ≡ (is_wake call && signals_for call signal)
takes_where condition (Some (Wake other)) signal h = bytes_turned other condition ∙ sym (h other)
takes_where condition (Some (Sleep other)) signal h = refl
takes_where condition (Some (Notify other)) signal h = refl
takes_where condition (Some (NotifyAll other)) signal h = refl
takes_where condition None signal h = refl

regroup : (a b c : Bool) → ((a && b) && c) ≡ (a && (b && c))
regroup true b c = refl
regroup false b c = refl

pub takers_here : (window : WindowForm) (g : Point) (condition : List ℕ) (wakers : List Point)
    → ((other : List ℕ) → signals_on other (call_at window g.id) ≡ bytes_eq condition other) → wakers ≡ wakes_on window (points_of window) condition
    → filter (λ (w : Point). not (w.id.thread == g.id.thread)) wakers ≡ takers_of window g
takers_here window g condition wakers signals are =
    let apart : Point → Bool = λ w. not (w.id.thread == g.id.thread) in
    let wakes : Point → Bool = λ w. is_wake (call_at window w.id) in
    ap (filter apart) are
    ∙ filter-filter (λ (w : Point). wakes_from condition (call_at window w.id)) apart (points_of window)
    ∙ filter_agree (λ (w : Point). wakes_from condition (call_at window w.id) && apart w) (λ (w : Point). wakes w && may_take window w g)
    (λ w. ap (λ b. b && apart w) (takes_where condition (call_at window w.id) (call_at window g.id) signals)
    ∙ regroup (wakes w) (signals_for (call_at window w.id) (call_at window g.id)) (apart w)
    ∙ ap (λ b. wakes w && (signals_for (call_at window w.id) (call_at window g.id) && not b)) (threads_turned w.id.thread g.id.thread)) (points_of window)
    ∙ sym (filter-filter wakes (λ w. may_take window w g) (points_of window))

no_taker : (call signal : Option Call) → ((other : List ℕ) → signals_on other signal ≡ false) → signals_for call signal ≡ false
no_taker (Some (Wake condition)) signal none = none condition
no_taker (Some (Sleep condition)) signal none = refl
no_taker (Some (Notify condition)) signal none = refl
no_taker (Some (NotifyAll condition)) signal none = refl
no_taker None signal none = refl

pub no_takers_here : (window : WindowForm) (g : Point) → ((other : List ℕ) → signals_on other (call_at window g.id) ≡ false) → [] ≡ takers_of window g
no_takers_here window g none =
    none_kept (λ w. may_take window w g) (wakes_of window) (λ w.
    let fails = no_taker (call_at window w.id) (call_at window g.id) none in rw fails refl)
