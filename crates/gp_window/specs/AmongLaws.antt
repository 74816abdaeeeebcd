-- Laws: which threads are among those of a list that is joined, filtered or counted up.
use Rattle.std.specs.Prelude.{◌≡◌, ◌↔◌, ◌<◌, ◌≤◌, ◌+◌, ◌++◌, ◌==◌, ◌&&◌, ◌||◌, ℕ, zero, suc, Bool, true, List, filter}
use Rattle.std.proofs.Common.{refl, ap, sym, ◌∙◌, inl, inr, arith, eqb-true, eq-eqb}
use Rattle.std.proofs.lemmas.Bool.{cases_Bool, false≢true}
use Rattle.std.proofs.lemmas.List.Folds.{list_any-append}
use Rattle.std.proofs.lemmas.Map.Views.{any-filter_same}
use Rattle.gp_window.specs.Starts.{is_among}
use Rattle.gp_window.specs.WindowForm.{numbers_from}

-- those among two lists together are among one of them
pub among_append : (threads more : List ℕ) (thread : ℕ) → is_among (threads ++ more) thread ≡ (is_among threads thread || is_among more thread)
among_append threads more thread = list_any-append (λ other. other == thread) threads more

-- those among the kept pass the test, and are among all
pub among_kept : (p : ℕ → Bool) (threads : List ℕ) (thread : ℕ) → is_among (filter p threads) thread ≡ (p thread && is_among threads thread)
among_kept p threads thread = any-filter_same (λ other. other == thread) p (p thread) (λ other same. ap p (eqb-true other thread same)) threads

among_from : (first count thread : ℕ) → is_among (numbers_from first count) thread ≡ true → (first ≤ thread) × (thread < first + count)
among_from first zero thread e = absurd (false≢true e)
among_from first (suc count) thread e =
    elim (cases_Bool (first == thread)) [
      | inl same ↦ let is : first ≡ thread = eqb-true first thread same in (omega (arith, is), omega (arith, is))
      | inr apart ↦ let rest = among_from (first + 1) count thread (rw apart at e) in (omega (arith, rest.0), omega (arith, rest.1))
    ]

among_to : (first count thread : ℕ) → first ≤ thread → thread < first + count → is_among (numbers_from first count) thread ≡ true
among_to first zero thread low high = absurd (omega (arith, low, high))
among_to first (suc count) thread low high =
    elim (cases_Bool (first == thread)) [
      | inl same ↦ rw same refl
      | inr apart ↦
          let other : first ≡ thread → ⊥ = λ is. false≢true (sym apart ∙ eq-eqb first thread is) in
          let past : first + 1 ≤ thread = above first thread low other in
          rw apart (among_to (first + 1) count thread past (omega (arith, high)))
    ]
  where
    above : (n t : ℕ) → n ≤ t → (n ≡ t → ⊥) → n + 1 ≤ t
    above n t low other = omega (arith, low, other)

-- those among numbers that are counted up are not below the first, and are fewer than so many above it
pub among_numbers : (first count thread : ℕ) → (is_among (numbers_from first count) thread ≡ true) ↔ ((first ≤ thread) × (thread < first + count))
among_numbers first count thread = (among_from first count thread, λ inside. among_to first count thread inside.0 inside.1)
