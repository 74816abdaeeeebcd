-- Exactly one list has the executed events of an answer by place.
use Rattle.std.proofs.Common.{◌≡◌, ◌⊎◌, ◌<◌, ℤ, ◌<ℤ◌, inl, inr, refl, sym, subst, ◌∙◌, arith}
use Rattle.std.specs.Ordering.{MatchOrdering, int_cmp, nat_cmp}
use Rattle.std.specs.declared.cmp.Ordering.{Ordering}
use Rattle.std.specs.declared.cmp.Ordering.TheVariants.{Less, Equal, Greater}
use Rattle.std.proofs.lemmas.Cmp.{int_ranked, ranked}
use Rattle.std.proofs.lemmas.Int.{ints}
use Rattle.gp_clause.specs.declared.valuation.Valuation.{Valuation}
use Rattle.gp_window.specs.declared.schedule.EventId.{EventId}
use Rattle.gp_window.specs.WindowForm.{WindowForm}
use Rattle.gp_window.specs.Ids.{IsLess}
use Rattle.gp_witness.specs.Witness.{ComesBefore, IsByPlace, OneIsByPlace, place_in}
use Rattle.gp_witness.proofs.ByPlace.{executed_ids}
use Rattle.gp_witness.proofs.InOrder.{in_order, same_order}

compares_by : (window : WindowForm) (valuation : Valuation) (one other : EventId) (a b c : Ordering)
    → MatchOrdering a (place_in window valuation one <ℤ place_in window valuation other) (place_in window valuation one ≡ place_in window valuation other) (place_in window valuation other <ℤ place_in window valuation one)
    → MatchOrdering b (one.thread < other.thread) (one.thread ≡ other.thread) (other.thread < one.thread)
    → MatchOrdering c (one.index < other.index) (one.index ≡ other.index) (other.index < one.index)
    → ComesBefore window valuation one other ⊎ ((one ≡ other) ⊎ ComesBefore window valuation other one)
compares_by window valuation one other Less b c x y z = inl (inl x)
compares_by window valuation one other Greater b c x y z = inr (inr (inl x))
compares_by window valuation one other Equal Less c x y z = inl (inr (x, inl y))
compares_by window valuation one other Equal Greater c x y z = inr (inr (inr (sym x, inl y)))
compares_by window valuation one other Equal Equal Less x y z = inl (inr (x, inr (y, z)))
compares_by window valuation one other Equal Equal Greater x y z = inr (inr (inr (sym x, inr (sym y, z))))
compares_by window valuation one other Equal Equal Equal x y z = inr (inl (λ i. record { thread = y i; index = z i }))

compares : (window : WindowForm) (valuation : Valuation) (one other : EventId) → ComesBefore window valuation one other ⊎ ((one ≡ other) ⊎ ComesBefore window valuation other one)
compares window valuation one other =
    compares_by window valuation one other (int_cmp (place_in window valuation one) (place_in window valuation other)) (nat_cmp one.thread other.thread) (nat_cmp one.index other.index)
    (int_ranked (place_in window valuation one) (place_in window valuation other) _ refl) (ranked one.thread other.thread _ refl) (ranked one.index other.index _ refl)

lesser_through : (one middle other : EventId) → IsLess one middle → IsLess middle other → IsLess one other
lesser_through one middle other (inl less) (inl more) = inl (omega (arith, less, more))
lesser_through one middle other (inl less) (inr (same, more)) = inl (omega (arith, less, same))
lesser_through one middle other (inr (same, less)) (inl more) = inl (omega (arith, same, more))
lesser_through one middle other (inr (same, less)) (inr (too, more)) = inr (same ∙ too, omega (arith, less, more))

less_through : (p q r : ℤ) → p <ℤ q → q <ℤ r → p <ℤ r
less_through p q r less more = omega (arith, ints)

through : (window : WindowForm) (valuation : Valuation) (one middle other : EventId) → ComesBefore window valuation one middle → ComesBefore window valuation middle other → ComesBefore window valuation one other
through window valuation one middle other (inl less) (inl more) =
    inl (less_through (place_in window valuation one) (place_in window valuation middle) (place_in window valuation other) less more)
through window valuation one middle other (inl less) (inr (same, more)) = inl (subst (λ (p : ℤ). place_in window valuation one <ℤ p) same less)
through window valuation one middle other (inr (same, less)) (inl more) = inl (subst (λ (p : ℤ). p <ℤ place_in window valuation other) (sym same) more)
through window valuation one middle other (inr (same, less)) (inr (too, more)) = inr (same ∙ too, lesser_through one middle other less more)

not_less : (p : ℤ) → p <ℤ p → ⊥
not_less p less = absurd (omega (arith, ints))

never : (window : WindowForm) (valuation : Valuation) (one : EventId) → ComesBefore window valuation one one → ⊥
never window valuation one (inl less) = not_less (place_in window valuation one) less
never window valuation one (inr (same, inl less)) = absurd (omega (arith, less))
never window valuation one (inr (same, inr (too, less))) = absurd (omega (arith, less))

pub one_by_place : (window : WindowForm) (valuation : Valuation) → OneIsByPlace window valuation
one_by_place window valuation =
    let ids = executed_ids window valuation in
    let ordered = in_order (ComesBefore window valuation) (compares window valuation) (through window valuation) ids.0 in
    let by_place : IsByPlace window valuation ordered.0 = record {
      sorted = ordered.1.sorted;
      only = λ id there. ids.1 id (ordered.1.only id there);
      all = λ id executed. ordered.1.all id (ids.2 id executed);
    } in
    record {
      schedule = ordered.0;
      by_place = by_place;
      only = λ other is.
          same_order (ComesBefore window valuation) (through window valuation) (never window valuation) other ordered.0 is.sorted by_place.sorted
          (λ id there. by_place.all id (is.only id there)) (λ id there. is.all id (by_place.only id there));
    }
