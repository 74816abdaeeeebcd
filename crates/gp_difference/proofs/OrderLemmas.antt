use Rattle.std.proofs.Common.{◌≡◌, ℕ, ◌<◌, inl, inr, List, length, slice_index, refl, sym, ap, subst, ◌∙◌, arith}
use Rattle.std.proofs.lemmas.Bool.{cases_eq}
use Rattle.std.proofs.lemmas.List.Edits.{Swapped, swapped_from_swap, length-swap}
use Rattle.std.specs.List.{swap}
use Rattle.gp_difference.specs.Order.{HasAll, LeadsBack, AreInverse}

-- a point's spot is told by what leads back
pub has_all : (points spots : List ℕ) → AreInverse points spots → HasAll points
has_all points spots is point within =
    let at = is.back point (omega (arith, is.size, within)) in (
      slice_index spots point,
      record {
        within = omega (arith, at.0, is.size);
        here = at.1;
        alone = λ other other_in e. sym ((is.there other other_in).1) ∙ ap (slice_index spots) e;
      },
    )

-- two numbers change places on the way there, and on the way back the numbers to which they led
leads_back : (there back there2 back2 : List ℕ) (a b : ℕ) → LeadsBack there back → a < length there → b < length there → length there2 ≡ length there →
    Swapped (slice_index there) (slice_index there2) a b → Swapped (slice_index back) (slice_index back2) (slice_index there a) (slice_index there b) →
    LeadsBack there2 back2
leads_back there back there2 back2 a b is a_in b_in size s t k within =
    let k_in : k < length there = omega (arith, size, within) in
    elim (cases_eq k a) [
      | inl e ↦
          let to : slice_index there2 k ≡ slice_index there b = ap (slice_index there2) e ∙ s.0 in
          (omega (arith, to, (is b b_in).0, size), ap (slice_index back2) to ∙ t.1 ∙ (is a a_in).1 ∙ sym e)
      | inr n ↦ elim (cases_eq k b) [
        | inl e ↦
            let to : slice_index there2 k ≡ slice_index there a = ap (slice_index there2) e ∙ s.1 in
            (omega (arith, to, (is a a_in).0, size), ap (slice_index back2) to ∙ t.0 ∙ (is b b_in).1 ∙ sym e)
        | inr m ↦
            let to : slice_index there2 k ≡ slice_index there k = s.2 k n m in
            let back_is = (is k k_in).1 in (
              omega (arith, to, (is k k_in).0, size),
              ap (slice_index back2) to
                  ∙ t.2 (slice_index there k) (λ e. n (sym back_is ∙ ap (slice_index back) e ∙ (is a a_in).1)) (λ e. m (sym back_is ∙ ap (slice_index back) e ∙ (is b b_in).1))
                  ∙ back_is,
            )
      ]
    ]

-- two points changed places
pub exchanged : (points spots : List ℕ) (a b first second : ℕ) → AreInverse points spots → a < length points → b < length points →
    first ≡ slice_index points a → second ≡ slice_index points b → AreInverse (swap points a b) (swap spots first second)
exchanged points spots a b first second is a_in b_in e f =
    let size : length (swap points a b) ≡ length points = length-swap points a b in
    let other : length (swap spots first second) ≡ length spots = length-swap spots first second in
    let first_in : first < length spots = omega (arith, e, (is.there a a_in).0, is.size) in
    let second_in : second < length spots = omega (arith, f, (is.there b b_in).0, is.size) in
    let s : Swapped (slice_index points) (slice_index (swap points a b)) a b = swapped_from_swap points (swap points a b) a b 0 a_in b_in refl in
    let t : Swapped (slice_index spots) (slice_index (swap spots first second)) first second = swapped_from_swap spots (swap spots first second) first second 0 first_in second_in refl in
    let a_is : slice_index spots first ≡ a = ap (slice_index spots) e ∙ (is.there a a_in).1 in
    let b_is : slice_index spots second ≡ b = ap (slice_index spots) f ∙ (is.there b b_in).1 in
    record {
      size = other ∙ is.size ∙ sym size;
      there = leads_back points spots _ _ a b is.there a_in b_in size s (subst (λ n. Swapped (slice_index spots) (slice_index (swap spots first second)) n (slice_index points b)) e
          (subst (λ n. Swapped (slice_index spots) (slice_index (swap spots first second)) first n) f t));
      back = leads_back spots points _ _ first second is.back first_in second_in other t (subst (λ n. Swapped (slice_index points) (slice_index (swap points a b)) n (slice_index spots second)) (sym a_is)
          (subst (λ n. Swapped (slice_index points) (slice_index (swap points a b)) a n) (sym b_is) s));
    }
