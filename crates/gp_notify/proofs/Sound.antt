-- The pairs that an answer gives: each front of its schedule is signalled with them.
use Rattle.std.proofs.Common.{ℕ, ◌≡◌, ◌<◌, ap, sym, ◌∙◌, refl, subst, inl, inr, List, [], ◌++◌, true, arith}
use Rattle.std.specs.Prelude.{◌==◌, ◌≢◌, Contains, filter, find, None, not, Option, Some}
use Rattle.std.proofs.lemmas.Bool.{and_parts, eq-eqb, false≢true}
use Rattle.std.proofs.lemmas.List.Elements.{Contains-append_left}
use Rattle.gp_base.specs.FilterLaws.{contains_filter, contains_from_filter, pairwise_filter}
use Rattle.gp_base.specs.ListLaws.{contains_flat_map, contains_found, contains_from_flat_map, first_or_rest, here, nothing_in, Pairwise, pairwise_flat_map}
use Rattle.gp_clause.specs.declared.valuation.Valuation.{Valuation}
use Rattle.gp_clause.specs.Valuation.{truth_of}
use Rattle.gp_window.specs.declared.schedule.EventId.{EventId}
use Rattle.gp_window.specs.IdLaws.{contains_means}
use Rattle.gp_window.specs.Ids.{contains_event}
use Rattle.gp_window.specs.WindowForm.{WindowForm}
use Rattle.gp_replay.specs.Feasible.{IsFeasible}
use Rattle.gp_constraint.specs.declared.point.Point.{Point}
use Rattle.gp_constraint.specs.declared.symbol.Symbol.TheVariants.{Executed, Signal}
use Rattle.gp_constraint.specs.ByPlace.{IsByPlace, IsExecuted}
use Rattle.gp_constraint.specs.Extended.{ExtendedMeans, ExtensionsMean}
use Rattle.gp_constraint.specs.PointLaws.{HasLesserNumber, IsEventOf, one_point, point_for, point_within, points_named, points_rise}
use Rattle.gp_constraint.specs.Points.{number_in, points_of}
use Rattle.gp_constraint.specs.StandingLaws.{before_in, before_of}
use Rattle.gp_constraint.specs.SymbolTruth.{read_by, SymbolTruth}
use Rattle.gp_notify.specs.declared.call.Call.TheVariants.{Wake}
use Rattle.gp_notify.specs.declared.pair.Pair.{Pair}
use Rattle.gp_notify.specs.Calls.{call_at, is_notify, is_wake, Notifies, signals_for, Wakes}
use Rattle.gp_notify.specs.Extended.{extended_names}
use Rattle.gp_notify.specs.Laws.{SignalsAreSound, SleepsAreScanned}
use Rattle.gp_notify.specs.Pairs.{is_taken, pair_of, pair_with, pairs_of}
use Rattle.gp_notify.specs.Signalled.{HaveOwnWakes, IsServed, IsSleepOf, ShareNoNotify, StandsBefore}
use Rattle.gp_notify.specs.Signals.{may_take, signals_of, signals_to, wakes_of}
use Rattle.gp_notify.proofs.Called.{signal_told}
use Rattle.gp_notify.proofs.Done.{done_before}
use Rattle.gp_notify.proofs.Order.{stands_first, stands_to}
use Rattle.gp_notify.proofs.Sleeps.{call_of_event, find_none, in_wakes, IsWake, number_is, sleep_is, wake_of}
use Rattle.gp_notify.proofs.Told.{alone_told, between_told, IsBetween, takes_told, TakesOne}

differ : (a b : ℕ) → not (a == b) ≡ true → a ≢ b
differ a b e = λ same. let tied : (a == b) ≡ true = eq-eqb a b same in false≢true (sym (ap not tied) ∙ e)

-- the pair of a wake and the signal that is found
pair_at : (w : Point) (found : Option Point) (pair : Pair) → Contains (pair_with w found) pair
    → (g : Point) × (found ≡ Some g) × (◌≡◌ {A = Pair} (record { wake = w.id; signal = g.id }) pair)
pair_at w None pair i = absurd (nothing_in pair i)
pair_at w (Some g) pair i =
    elim (first_or_rest (record { wake = w.id; signal = g.id }) [] pair i) [
      | inl same ↦ (g, refl, same)
      | inr none ↦ absurd (nothing_in pair none)
    ]

pair_to : (w : Point) (found : Option Point) (g : Point) → found ≡ Some g → Contains (pair_with w found) (record { wake = w.id; signal = g.id })
pair_to w found g e = subst (λ o. Contains (pair_with w o) (record { wake = w.id; signal = g.id })) (sym e) (here (record { wake = w.id; signal = g.id }) [])

small : (R : Pair → Pair → Type 0) (w : Point) (found : Option Point) → Pairwise R (pair_with w found)
small R w None = tt
small R w (Some g) = (tt, tt)

module _ (scanned : SleepsAreScanned) (window : WindowForm) (v : Valuation) (schedule back : List EventId)
    (means : ExtendedMeans window (signals_of window) v) (by : IsByPlace window v (schedule ++ back)) (feasible : IsFeasible window schedule) where
  abbrev t : SymbolTruth
  t = read_by (extended_names window) v

  point_event : (p : Point) → Contains (points_of window) p → IsEventOf window p.id
  point_event p i = let own = (points_named window).own p i in (own.0, own.1)

  -- an event of the front is executed
  does : (id : EventId) → contains_event schedule id ≡ true → IsExecuted window v id
  does id there = by.only id (Contains-append_left schedule back id ((contains_means schedule id).0 there))

  -- that a point is executed is told by its number
  executed_is : (p : Point) → Contains (points_of window) p → t.symbols (Executed p.number) ≡ truth_of v (number_in window p.id)
  executed_is p i = means.points p.number (point_within window p i) ∙ ap (truth_of v) (number_is window p i)

  -- a wake of the front
  record WakesAt (w : Point) : Type 0 where
    in_wakes : Contains (wakes_of window) w
    is : IsWake window w
    there : contains_event schedule w.id ≡ true

  wakes_at : (w : Point) → Contains (wakes_of window) w → contains_event schedule w.id ≡ true → WakesAt w
  wakes_at w i there = record { in_wakes = i; is = wake_of window w i; there = there }

  told : (w : Point) → WakesAt w → TakesOne window t w
  told w at = takes_told window t w means.further at.in_wakes (executed_is w at.is.in_w ∙ (does w.id at.there).1)

  -- it takes some signal
  takes_some : (w : Point) (found : Option Point) → TakesOne window t w → find (is_taken window v w) (signals_to window w) ≡ found
      → (g : Point) × (find (is_taken window v w) (signals_to window w) ≡ Some g)
  takes_some w None one e = absurd (find_none (is_taken window v w) (signals_to window w) one.signal e one.may one.taken)
  takes_some w (Some g) one e = (g, e)

  -- a signal that is found
  record Taken (w g : Point) : Type 0 where
    may : Contains (signals_to window w) g
    in_g : Contains (points_of window) g
    passes : may_take window w g ≡ true
    taken : t.symbols (Signal w.number g.number) ≡ true

  taken_from : (w g : Point) → find (is_taken window v w) (signals_to window w) ≡ Some g → Taken w g
  taken_from w g e =
      let f = contains_found (is_taken window v w) (signals_to window w) g e in
      let parts = contains_from_filter (may_take window w) (points_of window) g f.0 in
      record { may = f.0; in_g = parts.0; passes = parts.1; taken = f.1 }

  served : (w g : Point) → WakesAt w → Taken w g → IsServed window schedule w.id g.id
  served w g at taken =
      let one = told w at in
      let sleep = sleep_is scanned window at.is.condition w one.sleep at.is.wakes one.slept in
      let slept : IsSleepOf window at.is.condition w.id one.sleep.id = sleep.1 in
      let b : IsBetween window t w one.sleep g = between_told window t w one.sleep g means.base.edges at.is.in_w sleep.0 taken.may one.clauses taken.taken in
      let tests = and_parts (signals_for (call_at window w.id) (call_at window g.id)) (not (g.id.thread == w.id.thread)) taken.passes in
      let runs : truth_of v (number_in window g.id) ≡ true = sym (executed_is g taken.in_g) ∙ b.runs in
      let before : StandsBefore schedule g.id w.id = stands_first window v schedule back g.id w.id by at.there (point_event g taken.in_g, runs) b.before in
      let there_g : contains_event schedule g.id ≡ true = before_in schedule g.id w.id (stands_to schedule g.id w.id before).1 in
      let early : contains_event (before_of schedule w.id) one.sleep.id ≡ true =
      done_before window schedule one.sleep.id w.id feasible at.there slept.own slept.earlier in
      let there_s : contains_event schedule one.sleep.id ≡ true = before_in schedule one.sleep.id w.id early in
      record {
        condition = at.is.condition;
        sleep = one.sleep.id;
        wakes = at.is.wakes;
        slept = slept;
        signals = signal_told at.is.condition (call_at window g.id) (subst (λ o. signals_for o (call_at window g.id) ≡ true) at.is.wakes tests.0);
        apart = differ g.id.thread w.id.thread tests.1;
        after_sleep = stands_first window v schedule back one.sleep.id g.id by there_g (does one.sleep.id there_s) b.after;
        before_wake = before;
      }

  -- where a pair comes from
  record IsFrom (w : Point) (pair : Pair) : Type 0 where
    signal : Point
    taken : Taken w signal
    is : ◌≡◌ {A = Pair} (record { wake = w.id; signal = signal.id }) pair

  from_wake : (w : Point) (pair : Pair) → Contains (pair_of window v w) pair → IsFrom w pair
  from_wake w pair i =
      let p = pair_at w (find (is_taken window v w) (signals_to window w)) pair i in
      record { signal = p.0; taken = taken_from w p.0 p.1; is = p.2 }

  own_wakes : (x z : Point) (one other : Pair) → Contains (points_of window) x → Contains (points_of window) z → IsFrom x one → IsFrom z other
      → x.number < z.number → HaveOwnWakes one other
  own_wakes x z one other in_x in_z from too less = λ same.
      let ids : x.id ≡ z.id = ap (λ (p : Pair). p.wake) from.is ∙ same ∙ sym (ap (λ (p : Pair). p.wake) too.is) in
      let numbers : x.number ≡ z.number = number_is window x in_x ∙ ap (number_in window) ids ∙ sym (number_is window z in_z) in
      omega (arith, numbers, less)

  share_none : (x z : Point) (one other : Pair) → Contains (wakes_of window) x → Contains (wakes_of window) z → IsFrom x one → IsFrom z other
      → x.number < z.number → ShareNoNotify window one other
  share_none x z one other in_x in_z from too less = λ same condition notifies.
      let g : Point = from.signal in
      let ids : g.id ≡ too.signal.id = ap (λ (p : Pair). p.signal) from.is ∙ same ∙ sym (ap (λ (p : Pair). p.signal) too.is) in
      let numbers : g.number ≡ too.signal.number = number_is window g from.taken.in_g ∙ ap (number_in window) ids ∙ sym (number_is window too.signal too.taken.in_g) in
      let second : Taken z g = subst (Taken z) (sym (one_point window g too.signal from.taken.in_g too.taken.in_g numbers)) too.taken in
      let is : Notifies window condition g.id = subst (λ (p : Pair). Notifies window condition p.signal) (sym from.is) notifies in
      alone_told window t g x z means.further from.taken.in_g (ap is_notify is) in_x in_z from.taken.passes second.passes less from.taken.taken second.taken

  abbrev waking : List Point
  waking = filter (λ (w : Point). contains_event schedule w.id) (wakes_of window)

  in_waking : (w : Point) → Contains waking w → WakesAt w
  in_waking w i =
      let parts = contains_from_filter (λ (w : Point). contains_event schedule w.id) (wakes_of window) w i in
      wakes_at w parts.0 parts.1

  waking_rise : Pairwise HasLesserNumber waking
  waking_rise =
      pairwise_filter HasLesserNumber (λ (w : Point). contains_event schedule w.id) (wakes_of window)
      (pairwise_filter HasLesserNumber (λ (p : Point). is_wake (call_at window p.id)) (points_of window) (points_rise window))

  each_taken : (wake : EventId) (condition : List ℕ) → Contains schedule wake → Wakes window condition wake
      → (signal : EventId) × Contains (pairs_of window schedule v) (record { wake = wake; signal = signal })
  each_taken wake condition has wakes =
      let p = point_for window wake (call_of_event window wake (Wake condition) wakes) in
      let w : Point = p.0 in
      let own : Wakes window condition w.id = subst (Wakes window condition) (sym p.3) wakes in
      let there : contains_event schedule w.id ≡ true = subst (λ (x : EventId). contains_event schedule x ≡ true) (sym p.3) ((contains_means schedule wake).1 has) in
      let i = in_wakes window condition w p.1 own in
      let some = takes_some w (find (is_taken window v w) (signals_to window w)) (told w (wakes_at w i there)) refl in
      let pair : Pair = record { wake = w.id; signal = some.0.id } in
      let listed = contains_flat_map (pair_of window v) waking w pair (contains_filter (λ (w : Point). contains_event schedule w.id) (wakes_of window) w i there)
      (pair_to w (find (is_taken window v w) (signals_to window w)) some.0 some.1) in
      (some.0.id, subst (λ (x : EventId). Contains (pairs_of window schedule v) (record { wake = x; signal = some.0.id })) p.3 listed)

  each_served : (pair : Pair) → Contains (pairs_of window schedule v) pair → IsServed window schedule pair.wake pair.signal
  each_served pair i =
      let from = contains_from_flat_map (pair_of window v) waking pair i in
      let f = from_wake from.0 pair from.2 in
      subst (λ (p : Pair). IsServed window schedule p.wake p.signal) f.is (served from.0 f.signal (in_waking from.0 from.1) f.taken)

  once : Pairwise HaveOwnWakes (pairs_of window schedule v)
  once =
      pairwise_flat_map HasLesserNumber HaveOwnWakes (pair_of window v) waking waking_rise
      (λ x i. small HaveOwnWakes x (find (is_taken window v x) (signals_to window x)))
      (λ x z i j less one other k l. own_wakes x z one other (in_waking x i).is.in_w (in_waking z j).is.in_w (from_wake x one k) (from_wake z other l) less)

  alone : Pairwise (ShareNoNotify window) (pairs_of window schedule v)
  alone =
      pairwise_flat_map HasLesserNumber (ShareNoNotify window) (pair_of window v) waking waking_rise
      (λ x i. small (ShareNoNotify window) x (find (is_taken window v x) (signals_to window x)))
      (λ x z i j less one other k l. share_none x z one other (in_waking x i).in_wakes (in_waking z j).in_wakes (from_wake x one k) (from_wake z other l) less)

pub signals_sound : SleepsAreScanned → ExtensionsMean → SignalsAreSound
signals_sound scanned extensions window query v schedule back m by feasible =
    let means : ExtendedMeans window (signals_of window) v = extensions.answers window (signals_of window) query v m in
    record {
      feasible = feasible;
      each = each_taken scanned window v schedule back means by feasible;
      served = each_served scanned window v schedule back means by feasible;
      once = once scanned window v schedule back means by feasible;
      alone = alone scanned window v schedule back means by feasible;
    }
