-- Truth values of symbols that say what a schedule and its pairs do make the clauses of signals true.
use Rattle.std.proofs.Common.{ℕ, ◌≡◌, ◌⊎◌, ap, sym, ◌∙◌, refl, subst, inl, inr, List, [], ◌∷◌, Bool, true, false, arith}
use Rattle.std.specs.Prelude.{◌==◌, ◌&&◌, ◌||◌, ◌≢◌, Contains, flat_map, map, nat_lt, None, not, Option, Some}
use Rattle.std.specs.List.{list_any}
use Rattle.std.proofs.lemmas.Bool.{and_from, and_parts, cases_Bool, ltb-true, ne_eqb, or_left, or_right}
use Rattle.gp_base.specs.FilterLaws.{contains_filter, contains_from_filter}
use Rattle.gp_base.specs.ListLaws.{first_or_rest, here, nothing_in, Pairwise, recursion_at, there}
use Rattle.gp_window.specs.declared.schedule.EventId.{EventId}
use Rattle.gp_window.specs.IdLaws.{contains_means, same_id, same_itself}
use Rattle.gp_window.specs.Ids.{contains_event, is_same}
use Rattle.gp_window.specs.WindowForm.{WindowForm}
use Rattle.gp_constraint.specs.declared.point.Point.{Point}
use Rattle.gp_constraint.specs.declared.symbol.Symbol.{Symbol}
use Rattle.gp_constraint.specs.declared.symbol.Symbol.TheVariants.{Executed, Signal}
use Rattle.gp_constraint.specs.declared.term.Term.{Term}
use Rattle.gp_constraint.specs.PointLaws.{IsEventOf, point_for}
use Rattle.gp_constraint.specs.Points.{number_in, points_of}
use Rattle.gp_constraint.specs.StandingLaws.{before_in}
use Rattle.gp_constraint.specs.Terms.{before, executed, simplified}
use Rattle.gp_constraint.specs.TrueLaws.{all_append, all_flat, all_if, clause_true, neg_or, or_here, term_true}
use Rattle.gp_constraint.specs.Truths.{AreTrue}
use Rattle.gp_notify.specs.declared.call.Call.TheVariants.{Notify, NotifyAll}
use Rattle.gp_notify.specs.declared.pair.Pair.{Pair}
use Rattle.gp_notify.specs.Calls.{call_at, is_notify, Signals, signals_for, Wakes}
use Rattle.gp_notify.specs.Laws.{SleepsAreScanned}
use Rattle.gp_notify.specs.Signalled.{IsServed, IsSignalled, ShareNoNotify, StandsBefore}
use Rattle.gp_notify.specs.Signals.{between, may_take, not_both, notified, notifies_of, signals_of, signals_to, sleep_of, takers_of, takes, takes_one, wakes_of, woken, woken_by}
use Rattle.gp_notify.proofs.Called.{notify_is, signal_to}
use Rattle.gp_notify.proofs.Order.{stands_to}
use Rattle.gp_notify.proofs.Sleeps.{call_of_event, IsFoundSleep, number_is, sleep_found, sleep_is, wake_of}

abbrev pub pair : EventId → EventId → Pair
pair wake signal = record { wake = wake; signal = signal }

-- whether a wake and a signal are one of the pairs
abbrev pub is_pair : EventId → EventId → Pair → Bool
is_pair wake signal p = is_same p.wake wake && is_same p.signal signal

abbrev pub has_pair : List Pair → EventId → EventId → Bool
has_pair pairs wake signal = list_any (is_pair wake signal) pairs

pair_in : (pairs : List Pair) (wake signal : EventId) → has_pair pairs wake signal ≡ true → Contains pairs (pair wake signal)
pair_in [] wake signal e = cc
pair_in (p ∷ pairs) wake signal e =
    elim (cases_Bool (is_pair wake signal p)) [
      | inl own ↦
          let parts = and_parts (is_same p.wake wake) (is_same p.signal signal) own in
          let one : p.wake ≡ wake = same_id p.wake wake parts.0 in
          let other : p.signal ≡ signal = same_id p.signal signal parts.1 in
          let same : ◌≡◌ {A = Pair} p (pair wake signal) = (λ i. record { wake = one i; signal = other i }) in
          subst (λ x. Contains (x ∷ pairs) (pair wake signal)) (sym same) (here (pair wake signal) pairs)
      | inr fails ↦ there p pairs (pair wake signal) (pair_in pairs wake signal (rw fails at e))
    ]

in_pair : (pairs : List Pair) (wake signal : EventId) → Contains pairs (pair wake signal) → has_pair pairs wake signal ≡ true
in_pair [] wake signal i = absurd (nothing_in (pair wake signal) i)
in_pair (p ∷ pairs) wake signal i =
    elim (first_or_rest p pairs (pair wake signal) i) [
      | inl same ↦
          let own : is_pair wake signal (pair wake signal) ≡ true = and_from (is_same wake wake) (is_same signal signal) (same_itself wake) (same_itself signal) in
          or_left (is_pair wake signal p) (has_pair pairs wake signal) (subst (λ x. is_pair wake signal x ≡ true) (sym same) own)
      | inr rest ↦ or_right (is_pair wake signal p) (has_pair pairs wake signal) (in_pair pairs wake signal rest)
    ]

-- of two of a list one stands before the other
either : (R : Pair → Pair → Type 0) (xs : List Pair) (a b : Pair) → Pairwise R xs → Contains xs a → Contains xs b → (a ≡ b) ⊎ (R a b ⊎ R b a)
either R [] a b pairs i j = absurd (nothing_in a i)
either R (x ∷ xs) a b pairs i j =
    elim (first_or_rest x xs a i) [
      | inl same ↦ elim (first_or_rest x xs b j) [
        | inl too ↦ inl (sym same ∙ too)
        | inr later ↦ inr (inl (subst (λ y. R y b) same (recursion_at (R x) xs b pairs.0 later)))
      ]
      | inr rest ↦ elim (first_or_rest x xs b j) [
        | inl too ↦ inr (inr (subst (λ y. R y a) too (recursion_at (R x) xs a pairs.0 rest)))
        | inr later ↦ either R xs a b pairs.1 rest later
      ]
    ]

-- some mapped term of a list is true
any_mapped : (sem : Symbol → Bool) (f : Point → Term) (points : List Point) (p : Point) → Contains points p → term_true sem (f p) ≡ true → list_any (term_true sem) (map f points) ≡ true
any_mapped sem f [] p i is = absurd (nothing_in p i)
any_mapped sem f (q ∷ points) p i is =
    elim (first_or_rest q points p i) [
      | inl same ↦ or_left (term_true sem (f q)) (list_any (term_true sem) (map f points)) (subst (λ x. term_true sem (f x) ≡ true) (sym same) is)
      | inr rest ↦ or_right (term_true sem (f q)) (list_any (term_true sem) (map f points)) (any_mapped sem f points p rest is)
    ]

-- the truth values say what the schedule and its pairs do
pub record Means (window : WindowForm) (schedule : List EventId) (pairs : List Pair) (sem : Symbol → Bool) : Type 0 where
  pub runs : (p : Point) → Contains (points_of window) p → sem (Executed p.number) ≡ contains_event schedule p.id
  pub orders : (p q : Point) → Contains (points_of window) p → Contains (points_of window) q → p.id.thread ≢ q.id.thread → StandsBefore schedule p.id q.id
      → term_true sem (before p q) ≡ true
  pub takes : (w g : Point) → Contains (points_of window) w → Contains (points_of window) g → sem (Signal w.number g.number) ≡ has_pair pairs w.id g.id

signal_event : (window : WindowForm) (condition : List ℕ) (id : EventId) → Signals window condition id → IsEventOf window id
signal_event window condition id (inl is) = call_of_event window id (Notify condition) is
signal_event window condition id (inr is) = call_of_event window id (NotifyAll condition) is

-- a signal may be taken
may_from : (window : WindowForm) (condition : List ℕ) (w g : Point) → Wakes window condition w.id → Signals window condition g.id → g.id.thread ≢ w.id.thread → may_take window w g ≡ true
may_from window condition w g wakes signals apart =
    and_from (signals_for (call_at window w.id) (call_at window g.id)) (not (g.id.thread == w.id.thread))
    (subst (λ o. signals_for o (call_at window g.id) ≡ true) (sym wakes) (signal_to condition (call_at window g.id) signals))
    (ap not (ne_eqb g.id.thread w.id.thread apart))

module _ (scanned : SleepsAreScanned) (window : WindowForm) (schedule : List EventId) (pairs : List Pair) (sem : Symbol → Bool)
    (s : IsSignalled window schedule pairs) (m : Means window schedule pairs sem) where
  abbrev points : List Point
  points = points_of window

  -- the signal of a wake of the schedule
  record Served (w : Point) : Type 0 where
    signal : Point
    in_g : Contains points signal
    has : Contains pairs (pair w.id signal.id)
    is : IsServed window schedule w.id signal.id

  served_by : (condition : List ℕ) (w : Point) → Wakes window condition w.id → contains_event schedule w.id ≡ true → Served w
  served_by condition w wakes there =
      let one = s.each w.id condition ((contains_means schedule w.id).0 there) wakes in
      let is = s.served (pair w.id one.0) one.1 in
      let g = point_for window one.0 (signal_event window is.condition one.0 is.signals) in
      record {
        signal = g.0;
        in_g = g.1;
        has = subst (λ (x : EventId). Contains pairs (pair w.id x)) (sym g.3) one.1;
        is = subst (λ (x : EventId). IsServed window schedule w.id x) (sym g.3) is;
      }

  takes_true : (condition : List ℕ) (w : Point) → Contains points w → Wakes window condition w.id → AreTrue sem (takes_one (signals_to window w) w)
  takes_true condition w in_w wakes =
      let terms : List Term = map (λ g. takes w g true) (signals_to window w) in
      clause_true sem (executed w false ∷ terms) (neg_or (sem (Executed w.number)) (list_any (term_true sem) terms) (λ runs.
      let one = served_by condition w wakes (sym (m.runs w in_w) ∙ runs) in
      let g : Point = one.signal in
      let may = contains_filter (may_take window w) points g one.in_g (may_from window one.is.condition w g one.is.wakes one.is.signals one.is.apart) in
      any_mapped sem (λ g. takes w g true) (signals_to window w) g may (m.takes w g in_w one.in_g ∙ in_pair pairs w.id g.id one.has)))

  -- a wake takes only a signal between its sleep and itself
  between_true : (condition : List ℕ) (w x g : Point) → Contains points w → Contains points g → Wakes window condition w.id → sleep_of window w ≡ Some x → AreTrue sem (between w x g)
  between_true condition w x g in_w in_g wakes found =
      let in_x : Contains points x = (sleep_is scanned window condition w x wakes found).0 in
      let clause : (term : Term) → (IsServed window schedule w.id g.id → term_true sem term ≡ true) → AreTrue sem (simplified (takes w g false ∷ term ∷ [])) =
      (λ term holds. clause_true sem (takes w g false ∷ term ∷ [])
      (neg_or (sem (Signal w.number g.number)) (term_true sem term || false) (λ taken.
      or_here (term_true sem term) false (holds (s.served (pair w.id g.id) (pair_in pairs w.id g.id (sym (m.takes w g in_w in_g) ∙ taken))))))) in
      all_append sem (simplified (takes w g false ∷ executed g true ∷ [])) _
      (clause (executed g true) (λ is. m.runs g in_g ∙ before_in schedule g.id w.id (stands_to schedule g.id w.id is.before_wake).1))
      (all_append sem (simplified (takes w g false ∷ before x g ∷ [])) (simplified (takes w g false ∷ before g w ∷ []))
      (clause (before x g) (λ is.
      let f : IsFoundSleep window w is.sleep = sleep_found scanned window is.condition w is.sleep is.wakes is.slept in
      let both : ◌≡◌ {A = Option Point} (Some x) (Some f.point) = sym found ∙ f.found in
      let same : x ≡ f.point = cc in
      let id : x.id ≡ is.sleep = ap (λ (p : Point). p.id) same ∙ f.is in
      let apart : x.id.thread ≢ g.id.thread = (λ one. is.apart (sym one ∙ ap (λ (e : EventId). e.thread) id ∙ is.slept.own)) in
      m.orders x g in_x in_g apart (subst (λ (e : EventId). StandsBefore schedule e g.id) (sym id) is.after_sleep)))
      (clause (before g w) (λ is. m.orders g w in_g in_w is.apart is.before_wake)))

  woken_where : (condition : List ℕ) (w : Point) (found : Option Point) → Contains points w → Wakes window condition w.id → sleep_of window w ≡ found
      → AreTrue sem (woken_by (signals_to window w) w found)
  woken_where condition w None in_w wakes found =
      clause_true sem (executed w false ∷ []) (neg_or (sem (Executed w.number)) false (λ runs.
      let one = served_by condition w wakes (sym (m.runs w in_w) ∙ runs) in
      let f = sleep_found scanned window one.is.condition w one.is.sleep one.is.wakes one.is.slept in
      let bad : ◌≡◌ {A = Option Point} None (Some f.point) = sym found ∙ f.found in cc))
  woken_where condition w (Some x) in_w wakes found =
      all_append sem (takes_one (signals_to window w) w) (flat_map (between w x) (signals_to window w)) (takes_true condition w in_w wakes)
      (all_flat sem (between w x) (signals_to window w) (λ g i.
      between_true condition w x g in_w (contains_from_filter (may_take window w) points g i).0 wakes found))

  -- two wakes do not take one signal to one
  both_true : (g w v : Point) → Contains points g → Contains points w → Contains points v → is_notify (call_at window g.id) ≡ true → AreTrue sem (not_both g w v)
  both_true g w v in_g in_w in_v notifies =
      all_if sem (nat_lt w.number v.number) (simplified (takes w g false ∷ takes v g false ∷ [])) (λ test.
      let less = ltb-true w.number v.number test in
      clause_true sem (takes w g false ∷ takes v g false ∷ [])
      (neg_or (sem (Signal w.number g.number)) (not (sem (Signal v.number g.number)) || false) (λ taken.
      neg_or (sem (Signal v.number g.number)) false (λ too.
      let first = pair_in pairs w.id g.id (sym (m.takes w g in_w in_g) ∙ taken) in
      let second = pair_in pairs v.id g.id (sym (m.takes v g in_v in_g) ∙ too) in
      let is = notify_is window g.id notifies in
      elim (either (ShareNoNotify window) pairs (pair w.id g.id) (pair v.id g.id) s.alone first second) [
        | inl same ↦
            let ids : w.id ≡ v.id = ap (λ (x : Pair). x.wake) same in
            let numbers : w.number ≡ v.number = number_is window w in_w ∙ ap (number_in window) ids ∙ sym (number_is window v in_v) in
            absurd (omega (arith, numbers, less))
        | inr (inl share) ↦ absurd (share refl is.0 is.1)
        | inr (inr share) ↦ absurd (share refl is.0 is.1)
      ]))))

  taker : (g w : Point) → Contains (takers_of window g) w → Contains points w
  taker g w i = (wake_of window w (contains_from_filter (λ w. may_take window w g) (wakes_of window) w i).0).in_w

  pub signals_true : AreTrue sem (signals_of window)
  signals_true =
      all_append sem (flat_map (woken window) (wakes_of window)) (flat_map (notified window) (notifies_of window))
      (all_flat sem (woken window) (wakes_of window) (λ w i.
      let is = wake_of window w i in
      woken_where is.condition w (sleep_of window w) is.in_w is.wakes refl))
      (all_flat sem (notified window) (notifies_of window) (λ g i.
      let parts = contains_from_filter (λ (p : Point). is_notify (call_at window p.id)) points g i in
      all_flat sem (λ w. flat_map (not_both g w) (takers_of window g)) (takers_of window g) (λ w j.
      all_flat sem (not_both g w) (takers_of window g) (λ v k.
      both_true g w v parts.0 (taker g w j) (taker g v k) parts.1))))
