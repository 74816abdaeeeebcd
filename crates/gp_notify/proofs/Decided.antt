-- The test of a feasible schedule and its pairs is exact.
use Rattle.std.proofs.Common.{ℕ, ◌≡◌, ap, sym, ◌∙◌, refl, subst, inl, inr, List, [], ◌∷◌, Bool, true, false, arith}
use Rattle.std.specs.Prelude.{◌||◌, ◌≢◌, not, ◌==◌, Contains, Option, Some, None}
use Rattle.std.specs.List.{list_all}
use Rattle.std.proofs.lemmas.Bool.{and_from, and_parts, cases_Bool, eq-eqb, false≢true, ne_eqb}
use Rattle.gp_base.specs.ListLaws.{first_or_rest, here, nothing_in, Pairwise, recursion_at, recursion_from_each, there}
use Rattle.gp_instance.specs.Matches.{is_before, place_of}
use Rattle.gp_instance.specs.Pairs.{all_pairs}
use Rattle.gp_window.specs.declared.schedule.EventId.{EventId}
use Rattle.gp_window.specs.Events.{segment_of}
use Rattle.gp_window.specs.IdLaws.{same_id, same_itself}
use Rattle.gp_window.specs.Ids.{is_same}
use Rattle.gp_window.specs.WindowForm.{WindowForm}
use Rattle.gp_replay.specs.Feasible.{IsFeasible}
use Rattle.gp_constraint.specs.PointLaws.{event_id}
use Rattle.gp_notify.specs.declared.pair.Pair.{Pair}
use Rattle.gp_notify.specs.Calls.{call_at, is_notify, is_wake, signals_for}
use Rattle.gp_notify.specs.Deciding.{are_apart, comes_after, has_wake, is_paired, is_served, is_signalled, share_notify}
use Rattle.gp_notify.specs.Laws.{TestIsExact}
use Rattle.gp_notify.specs.Signalled.{HaveOwnWakes, IsServed, IsSignalled, ShareNoNotify, StandsBefore}
use Rattle.gp_notify.specs.Sleeping.{sleep_for, sleep_index, slept_at}
use Rattle.gp_notify.proofs.Called.{for_wake, notify_is, signal_told, signal_to, wake_is}
use Rattle.gp_notify.proofs.Scanned.{sleeps_scanned}

-- tests of lists
all_at : {X : Type 0} (test : X → Bool) (xs : List X) (x : X) → list_all test xs ≡ true → Contains xs x → test x ≡ true
all_at test [] x all i = absurd (nothing_in x i)
all_at test (y ∷ xs) x all i =
    let parts = and_parts (test y) (list_all test xs) all in
    elim (first_or_rest y xs x i) [
      | inl same ↦ subst (λ z. test z ≡ true) same parts.0
      | inr rest ↦ all_at test xs x parts.1 rest
    ]

all_to : {X : Type 0} (test : X → Bool) (xs : List X) → ((x : X) → Contains xs x → test x ≡ true) → list_all test xs ≡ true
all_to test [] h = refl
all_to test (x ∷ xs) h = and_from (test x) (list_all test xs) (h x (here x xs)) (all_to test xs (λ y i. h y (there x xs y i)))

pairs_at : {X : Type 0} (test : X → X → Bool) (xs : List X) → all_pairs test xs ≡ true → Pairwise (λ a b. test a b ≡ true) xs
pairs_at test [] all = tt
pairs_at test (x ∷ xs) all =
    let parts = and_parts (list_all (test x) xs) (all_pairs test xs) all in
    (recursion_from_each (λ b. test x b ≡ true) xs (λ y i. all_at (test x) xs y parts.0 i), pairs_at test xs parts.1)

pairs_to : {X : Type 0} (test : X → X → Bool) (xs : List X) → Pairwise (λ a b. test a b ≡ true) xs → all_pairs test xs ≡ true
pairs_to test [] h = refl
pairs_to test (x ∷ xs) h =
    and_from (list_all (test x) xs) (all_pairs test xs) (all_to (test x) xs (λ y i. recursion_at (λ b. test x b ≡ true) xs y h.0 i)) (pairs_to test xs h.1)

pairs_both : {X : Type 0} (R S T : X → X → Type 0) (xs : List X) → ((a b : X) → R a b → S a b → T a b) → Pairwise R xs → Pairwise S xs → Pairwise T xs
pairs_both R S T [] to h k = tt
pairs_both R S T (x ∷ xs) to h k =
    (recursion_from_each (T x) xs (λ y i. to x y (recursion_at (R x) xs y h.0 i) (recursion_at (S x) xs y k.0 i)), pairs_both R S T xs to h.1 k.1)

-- a pair of a wake
pair_in : (pairs : List Pair) (wake : EventId) → has_wake pairs wake ≡ true → (signal : EventId) × Contains pairs (record { wake = wake; signal = signal })
pair_in [] wake e = cc
pair_in (pair ∷ pairs) wake e =
    elim (cases_Bool (is_same pair.wake wake)) [
      | inl same ↦
          let is : pair.wake ≡ wake = same_id pair.wake wake same in
          let whole : ◌≡◌ {A = Pair} pair (record { wake = wake; signal = pair.signal }) = λ i. record { wake = is i; signal = pair.signal } in
          (pair.signal, (0, omega arith, whole))
      | inr fails ↦ let rest = pair_in pairs wake (rw fails at e) in (rest.0, there pair pairs (record { wake = wake; signal = rest.0 }) rest.1)
    ]

in_pairs : (pairs : List Pair) (pair : Pair) → Contains pairs pair → has_wake pairs pair.wake ≡ true
in_pairs [] pair i = absurd (nothing_in pair i)
in_pairs (first ∷ pairs) pair i =
    elim (cases_Bool (is_same first.wake pair.wake)) [
      | inl same ↦ rw same refl
      | inr fails ↦ elim (first_or_rest first pairs pair i) [
        | inl is ↦ absurd (false≢true (sym fails ∙ subst (λ (p : Pair). is_same first.wake p.wake ≡ true) is (same_itself first.wake)))
        | inr rest ↦ rw fails (in_pairs pairs pair rest)
      ]
    ]

or_told : (a b : Bool) → (not a || b) ≡ true → a ≡ true → b ≡ true
or_told true b e is = e
or_told false b e is = cc

or_to : (a b : Bool) → (a ≡ true → b ≡ true) → (not a || b) ≡ true
or_to true b h = h refl
or_to false b h = refl

not_told : (a : Bool) → not a ≡ true → a ≡ true → ⊥
not_told true e is = false≢true e
not_told false e is = false≢true is

not_to : (a : Bool) → (a ≡ true → ⊥) → not a ≡ true
not_to true h = absurd (h refl)
not_to false h = refl

-- the sleep that the signal comes after
after_told : (schedule : List EventId) (thread : ℕ) (o : Option ℕ) (signal : EventId) → comes_after schedule thread o signal ≡ true
    → (index : ℕ) × (o ≡ Some index) × StandsBefore schedule (event_id thread index) signal
after_told schedule thread None signal e = cc
after_told schedule thread (Some index) signal e = (index, refl, e)

differ : (a b : ℕ) → not (a == b) ≡ true → a ≢ b
differ a b e = λ same. let tied : (a == b) ≡ true = eq-eqb a b same in false≢true (sym (ap not tied) ∙ e)

served_told : (window : WindowForm) (schedule : List EventId) (pair : Pair) → is_served window schedule pair ≡ true → IsServed window schedule pair.wake pair.signal
served_told window schedule pair e =
    let wake : EventId = pair.wake in
    let signal : EventId = pair.signal in
    let one = and_parts (signals_for (call_at window wake) (call_at window signal)) _ e in
    let two = and_parts (not (signal.thread == wake.thread)) _ one.1 in
    let three = and_parts (comes_after schedule wake.thread (sleep_index window wake) signal) (is_before (place_of schedule signal) (place_of schedule wake)) two.1 in
    let condition = wake_is window wake (for_wake (call_at window wake) (call_at window signal) one.0) in
    let after = after_told schedule wake.thread (sleep_index window wake) signal three.0 in
    let found : slept_at condition.0 (segment_of window wake.thread) wake.index ≡ Some after.0 = subst (λ o. sleep_for window wake o ≡ Some after.0) condition.1 after.1 in
    record {
      condition = condition.0;
      sleep = event_id wake.thread after.0;
      wakes = condition.1;
      slept = (sleeps_scanned window condition.0 wake (event_id wake.thread after.0)).1 (refl, found);
      signals = signal_told condition.0 (call_at window signal) (subst (λ o. signals_for o (call_at window signal) ≡ true) condition.1 one.0);
      apart = differ signal.thread wake.thread two.0;
      after_sleep = after.2;
      before_wake = three.1;
    }

served_to : (window : WindowForm) (schedule : List EventId) (pair : Pair) → IsServed window schedule pair.wake pair.signal → is_served window schedule pair ≡ true
served_to window schedule pair s =
    let wake : EventId = pair.wake in
    let signal : EventId = pair.signal in
    let scan = (sleeps_scanned window s.condition wake s.sleep).0 s.slept in
    let found : sleep_index window wake ≡ Some s.sleep.index = subst (λ o. sleep_for window wake o ≡ Some s.sleep.index) (sym s.wakes) scan.1 in
    let id : s.sleep ≡ event_id wake.thread s.sleep.index = ap (λ t. event_id t s.sleep.index) scan.0 in
    let after : comes_after schedule wake.thread (Some s.sleep.index) signal ≡ true = subst (λ (x : EventId). StandsBefore schedule x signal) id s.after_sleep in
    and_from (signals_for (call_at window wake) (call_at window signal)) _
    (subst (λ o. signals_for o (call_at window signal) ≡ true) (sym s.wakes) (signal_to s.condition (call_at window signal) s.signals))
    (and_from (not (signal.thread == wake.thread)) _ (ap not (ne_eqb signal.thread wake.thread s.apart))
    (and_from (comes_after schedule wake.thread (sleep_index window wake) signal) (is_before (place_of schedule signal) (place_of schedule wake))
    (subst (λ o. comes_after schedule wake.thread o signal ≡ true) (sym found) after) s.before_wake))

apart_told : (window : WindowForm) (one other : Pair) → are_apart window one other ≡ true → HaveOwnWakes one other × ShareNoNotify window one other
apart_told window one other e =
    let parts = and_parts (not (is_same one.wake other.wake)) (not (share_notify window one other)) e in (
      (λ same. not_told (is_same one.wake other.wake) parts.0 (subst (λ x. is_same one.wake x ≡ true) same (same_itself one.wake))),
      (λ same condition notifies. not_told (share_notify window one other) parts.1
          (and_from (is_same one.signal other.signal) (is_notify (call_at window one.signal)) (subst (λ x. is_same one.signal x ≡ true) same (same_itself one.signal)) (ap is_notify notifies))),
    )

apart_to : (window : WindowForm) (one other : Pair) → HaveOwnWakes one other → ShareNoNotify window one other → are_apart window one other ≡ true
apart_to window one other own alone =
    and_from (not (is_same one.wake other.wake)) (not (share_notify window one other))
    (not_to (is_same one.wake other.wake) (λ same. own (same_id one.wake other.wake same)))
    (not_to (share_notify window one other) (λ share.
    let parts = and_parts (is_same one.signal other.signal) (is_notify (call_at window one.signal)) share in
    let is = notify_is window one.signal parts.1 in
    alone (same_id one.signal other.signal parts.0) is.0 is.1))

signalled_told : (window : WindowForm) (schedule : List EventId) (pairs : List Pair) → IsFeasible window schedule → is_signalled window schedule pairs ≡ true
    → IsSignalled window schedule pairs
signalled_told window schedule pairs feasible e =
    let one = and_parts (list_all (is_paired window pairs) schedule) _ e in
    let two = and_parts (list_all (is_served window schedule) pairs) (all_pairs (are_apart window) pairs) one.1 in
    let apart = pairs_at (are_apart window) pairs two.1 in
    let Is : Pair → Pair → Type 0 = λ a b. are_apart window a b ≡ true in
    record {
      feasible = feasible;
      each = λ wake condition has wakes.
          pair_in pairs wake (or_told (is_wake (call_at window wake)) (has_wake pairs wake) (all_at (is_paired window pairs) schedule wake one.0 has) (ap is_wake wakes));
      served = λ pair i. served_told window schedule pair (all_at (is_served window schedule) pairs pair two.0 i);
      once = pairs_both Is Is HaveOwnWakes pairs (λ a b h k. (apart_told window a b h).0) apart apart;
      alone = pairs_both Is Is (ShareNoNotify window) pairs (λ a b h k. (apart_told window a b h).1) apart apart;
    }

signalled_to : (window : WindowForm) (schedule : List EventId) (pairs : List Pair) → IsSignalled window schedule pairs
    → is_signalled window schedule pairs ≡ true
signalled_to window schedule pairs s =
    and_from (list_all (is_paired window pairs) schedule) _
    (all_to (is_paired window pairs) schedule (λ id has. or_to (is_wake (call_at window id)) (has_wake pairs id) (λ is.
    let condition = wake_is window id is in
    let one = s.each id condition.0 has condition.1 in
    in_pairs pairs (record { wake = id; signal = one.0 }) one.1)))
    (and_from (list_all (is_served window schedule) pairs) (all_pairs (are_apart window) pairs)
    (all_to (is_served window schedule) pairs (λ pair i. served_to window schedule pair (s.served pair i)))
    (pairs_to (are_apart window) pairs (pairs_both HaveOwnWakes (ShareNoNotify window) (λ a b. are_apart window a b ≡ true) pairs (apart_to window) s.once s.alone)))

pub test_exact : TestIsExact
test_exact window schedule pairs feasible = (signalled_told window schedule pairs feasible, signalled_to window schedule pairs)
