-- At a recording's very start just the roots are started.
use Rattle.std.proofs.Common.{ℕ, ◌≡◌, ◌+◌, ◌≤◌, ◌∙◌, inl, inr, true, List, [], ◌∷◌, arith, eqb-true}
use Rattle.std.specs.Cmp.{both_ways}
use Rattle.std.specs.Prelude.{◌==◌, ◌&&◌, ◌||◌, nat_le}
use Rattle.std.proofs.lemmas.Bool.{and_from, and_parts, cases_Bool, false≢true, leb-true, or_cases, or_left}
use Rattle.gp_window.specs.AmongLaws.{among_kept, among_numbers}
use Rattle.gp_window.specs.Number.{is_rising}
use Rattle.gp_window.specs.Starts.{is_among}
use Rattle.gp_window.specs.WindowForm.{chosen, numbers_from}

-- each of some numbers that rise within bounds is within them
within : (low high : ℕ) (numbers : List ℕ) (number : ℕ) → is_rising low high numbers ≡ true → is_among numbers number ≡ true → (low ≤ number) × (number ≤ high)
within low high [] number rise e = absurd (false≢true e)
within low high (first ∷ numbers) number rise e =
    let parts = and_parts (nat_le low first && nat_le first high) (is_rising (first + 1) high numbers) rise in
    let bounds = and_parts (nat_le low first) (nat_le first high) parts.0 in
    let least : low ≤ first = leb-true low first bounds.0 in
    let most : first ≤ high = leb-true first high bounds.1 in
    elim (cases_Bool (first == number)) [
      | inl same ↦ let is : first ≡ number = eqb-true first number same in (omega (arith, least, is), omega (arith, most, is))
      | inr apart ↦ let later = within (first + 1) high numbers number parts.1 (rw apart at e) in (omega (arith, least, later.0), later.1)
    ]

-- of the threads from 1 on, those that are roots are the roots, which rise within them
pub just_roots : (threads : ℕ) (roots : List ℕ) → is_rising 1 threads roots ≡ true → (thread : ℕ)
    → is_among (chosen roots [] (numbers_from 1 threads)) thread ≡ is_among roots thread
just_roots threads roots rise thread =
    among_kept (λ t. is_among roots t || is_among [] t) (numbers_from 1 threads) thread
    ∙ both_ways ((is_among roots thread || is_among [] thread) && is_among (numbers_from 1 threads) thread) (is_among roots thread)
    (λ e. elim (or_cases (is_among roots thread) (is_among [] thread)
    (and_parts (is_among roots thread || is_among [] thread) (is_among (numbers_from 1 threads) thread) e).0) [
      | inl root ↦ root
      | inr none ↦ absurd (false≢true none)
    ])
    (λ root.
    let inside = within 1 threads roots thread rise root in
    let least = inside.0 in
    let most = inside.1 in
    and_from (is_among roots thread || is_among [] thread) (is_among (numbers_from 1 threads) thread)
    (or_left (is_among roots thread) (is_among [] thread) root) ((among_numbers 1 threads thread).1 (least, omega (arith, most))))
