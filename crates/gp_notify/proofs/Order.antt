-- What stands before what in a schedule.
use Rattle.std.proofs.Common.{ℕ, ◌≡◌, ◌<◌, ap, ◌∙◌, refl, subst, inl, inr, List, [], ◌∷◌, ◌++◌, length, true, false, cond, arith, append_assoc}
use Rattle.std.specs.Prelude.{◌<ℤ◌, Contains, Some, None, nat_lt}
use Rattle.std.specs.List.{position_or_len}
use Rattle.std.proofs.lemmas.Bool.{cases_Bool, lt-ltb, ltb-true}
use Rattle.std.proofs.lemmas.Int.{ints}
use Rattle.gp_base.specs.ListLaws.{contains_parts, Pairwise, pairwise_from_pairs, recursion_at}
use Rattle.gp_clause.specs.declared.valuation.Valuation.{Valuation}
use Rattle.gp_instance.specs.Matches.{is_before}
use Rattle.gp_window.specs.declared.schedule.EventId.{EventId}
use Rattle.gp_window.specs.IdLaws.{contains_means}
use Rattle.gp_window.specs.Ids.{contains_event, is_same}
use Rattle.gp_window.specs.WindowForm.{WindowForm}
use Rattle.gp_constraint.specs.ByPlace.{ComesBefore, IsByPlace, IsExecuted, place_in}
use Rattle.gp_constraint.specs.StandingLaws.{before_of, before_shorter, before_within, found, shorter_before}
use Rattle.gp_notify.specs.Signalled.{StandsBefore}

-- the place of an event is the number of those before it
position_is : (ids : List EventId) (e : EventId) → position_or_len (λ other. is_same other e) ids ≡ length (before_of ids e)
position_is [] e = refl
position_is (id ∷ ids) e =
    elim (cases_Bool (is_same id e)) [
      | inl same ↦ rw same refl
      | inr differ ↦ let rest = position_is ids e in rw differ (omega (arith, rest))
    ]

ordered : (p q n : ℕ) → is_before (cond (nat_lt p n) (Some p) None) (cond (nat_lt q n) (Some q) None) ≡ true → (p < n) × (q < n) × (p < q)
ordered p q n is =
    elim (cases_Bool (nat_lt p n)) [
      | inl there ↦ elim (cases_Bool (nat_lt q n)) [
        | inl too ↦ (ltb-true p n there, ltb-true q n too, ltb-true p q (rw (there, too) at is))
        | inr absent ↦ let bad : false ≡ true = rw (there, absent) at is in cc
      ]
      | inr absent ↦ let bad : false ≡ true = rw absent at is in cc
    ]

ordered_from : (p q n : ℕ) → p < n → q < n → p < q → is_before (cond (nat_lt p n) (Some p) None) (cond (nat_lt q n) (Some q) None) ≡ true
ordered_from p q n first second less =
    let there : nat_lt p n ≡ true = lt-ltb p n first in
    let too : nat_lt q n ≡ true = lt-ltb q n second in
    let below : nat_lt p q ≡ true = lt-ltb p q less in
    rw (there, too, below) refl

within_in : (ids : List EventId) (e : EventId) → length (before_of ids e) < length ids → contains_event ids e ≡ true
within_in [] e less = absurd (omega arith)
within_in (id ∷ ids) e less =
    elim (cases_Bool (is_same id e)) [
      | inl same ↦ rw same refl
      | inr differ ↦ let shorter = rw differ at less in rw differ (within_in ids e (omega (arith, shorter)))
    ]

-- one event stands before another that is there exactly where it is among those before it
pub stands_to : (ids : List EventId) (one other : EventId) → StandsBefore ids one other → (contains_event ids other ≡ true) × (contains_event (before_of ids other) one ≡ true)
stands_to ids one other is =
    let parts = ordered (position_or_len (λ id. is_same id one) ids) (position_or_len (λ id. is_same id other) ids) (length ids) is in
    let below = parts.1 in
    let less = parts.2 in
    let p = position_is ids one in
    let q = position_is ids other in
    (within_in ids other (omega (arith, below, q)), shorter_before ids one other (omega (arith, less, p, q)))

pub stands_from : (ids : List EventId) (one other : EventId) → contains_event ids other ≡ true → contains_event (before_of ids other) one ≡ true → StandsBefore ids one other
stands_from ids one other there early =
    let less = before_shorter ids one other early in
    let within = before_within ids other there in
    let p = position_is ids one in
    let q = position_is ids other in
    ordered_from (position_or_len (λ id. is_same id one) ids) (position_or_len (λ id. is_same id other) ids) (length ids)
    (omega (arith, less, within, p)) (omega (arith, within, q)) (omega (arith, less, p, q))

-- after an event of a list come those that it may come before
after_middle : (R : EventId → EventId → Type 0) (front : List EventId) (middle : EventId) (back : List EventId) (id : EventId) → Pairwise R (front ++ middle ∷ back) → Contains back id → R middle id
after_middle R [] middle back id pairs i = recursion_at (R middle) back id pairs.0 i
after_middle R (first ∷ front) middle back id pairs i = after_middle R front middle back id pairs.1 i

-- no event comes before one of a lesser place, or before itself
comes_not : (window : WindowForm) (v : Valuation) (one other : EventId) → place_in window v one <ℤ place_in window v other → ComesBefore window v other one → ⊥
comes_not window v one other less (inl back) = absurd (omega (arith, ints, less, back))
comes_not window v one other less (inr tied) = let same = tied.0 in absurd (omega (arith, ints, less, same))

less_itself : (window : WindowForm) (v : Valuation) (one other : EventId) → other ≡ one → place_in window v one <ℤ place_in window v other → ⊥
less_itself window v one other same less =
    let there : place_in window v one <ℤ place_in window v one = subst (λ e. place_in window v one <ℤ place_in window v e) same less in absurd (omega (arith, ints, there))

-- what is executed at a lesser place than an event of a front of the executed events stands before it there
pub stands_first : (window : WindowForm) (v : Valuation) (schedule back : List EventId) (one other : EventId) → IsByPlace window v (schedule ++ back)
    → contains_event schedule other ≡ true → IsExecuted window v one → place_in window v one <ℤ place_in window v other → StandsBefore schedule one other
stands_first window v schedule back one other by there does less =
    let split = found schedule other there in
    let front : List EventId = before_of schedule other in
    let all : schedule ++ back ≡ front ++ other ∷ (split.0 ++ back) = ap (λ ids. ids ++ back) split.1 ∙ append_assoc front (other ∷ split.0) back in
    let pairs : Pairwise (ComesBefore window v) (front ++ other ∷ (split.0 ++ back)) =
    subst (Pairwise (ComesBefore window v)) all (pairwise_from_pairs (ComesBefore window v) (schedule ++ back) by.sorted) in
    let has : Contains (front ++ other ∷ (split.0 ++ back)) one = subst (λ ids. Contains ids one) all (by.all one does) in
    elim (contains_parts one other front (split.0 ++ back) has) [
      | inl early ↦ stands_from schedule one other there ((contains_means front one).1 early)
      | inr (inl same) ↦ absurd (less_itself window v one other same less)
      | inr (inr late) ↦ absurd (comes_not window v one other less (after_middle (ComesBefore window v) front other (split.0 ++ back) one pairs late))
    ]
