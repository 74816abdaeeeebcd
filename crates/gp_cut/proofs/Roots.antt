-- The roots of windows that were cut out: they rise, and there is one.
use Rattle.std.proofs.Common.{◌≡◌, ◌∙◌, subst, inl, inr, true, ℕ, zero, suc, ◌+◌, ◌<◌, ◌≤◌, refl, Bool, List, [], ◌∷◌, length, arith, eq-eqb, eqb-true}
use Rattle.std.specs.Prelude.{Contains, ◌==◌, ◌&&◌, ◌||◌, filter, nat_le}
use Rattle.std.proofs.lemmas.Bool.{and_from, and_parts, cases_Bool, false≢true, le-leb, leb-true, or_cases, or_left, or_right}
use Rattle.gp_base.specs.ListLaws.{first_or_rest, here, nothing_in, there}
use Rattle.gp_window.specs.AmongLaws.{among_kept, among_numbers}
use Rattle.gp_window.specs.Number.{is_rising}
use Rattle.gp_window.specs.Starts.{is_among}
use Rattle.gp_window.specs.WindowForm.{chosen, numbers_from}

-- what stands among threads is told so, and the other way round
pub among_from : (threads : List ℕ) (thread : ℕ) → Contains threads thread → is_among threads thread ≡ true
among_from [] thread i = absurd (nothing_in thread i)
among_from (other ∷ threads) thread i =
    elim (first_or_rest other threads thread i) [
      | inl same ↦ or_left (other == thread) (is_among threads thread) (eq-eqb other thread same)
      | inr rest ↦ or_right (other == thread) (is_among threads thread) (among_from threads thread rest)
    ]

pub among_to : (threads : List ℕ) (thread : ℕ) → is_among threads thread ≡ true → Contains threads thread
among_to [] thread e = absurd (false≢true e)
among_to (other ∷ threads) thread e =
    elim (or_cases (other == thread) (is_among threads thread) e) [
      | inl same ↦ subst (Contains (other ∷ threads)) (eqb-true other thread same) (here other threads)
      | inr rest ↦ there other threads thread (among_to threads thread rest)
    ]

-- numbers that are counted up rise, and so do some of them
numbers_rise : (p : ℕ → Bool) (low high n count : ℕ) → low ≤ n → n + count ≤ high + 1 → is_rising low high (filter p (numbers_from n count)) ≡ true
numbers_rise p low high n zero least most = refl
numbers_rise p low high n (suc count) least most =
    elim (cases_Bool (p n)) [
      | inl kept ↦ rw kept (and_from (nat_le low n && nat_le n high) (is_rising (n + 1) high (filter p (numbers_from (n + 1) count)))
          (and_from (nat_le low n) (nat_le n high) (le-leb low n least) (le-leb n high (omega (arith, most))))
          (numbers_rise p (n + 1) high (n + 1) count (omega arith) (omega (arith, most))))
      | inr left ↦ rw left (numbers_rise p low high (n + 1) count (omega (arith, least)) (omega (arith, most)))
    ]

pub roots_rise : (roots started : List ℕ) (threads : ℕ) → is_rising 1 threads (chosen roots started (numbers_from 1 threads)) ≡ true
roots_rise roots started threads = numbers_rise (λ thread. is_among roots thread || is_among started thread) 1 threads 1 threads (omega arith) (omega arith)

-- there is still a root
pub some_root : (roots started : List ℕ) (threads : ℕ) → 0 < length roots → is_rising 1 threads roots ≡ true → 0 < length (chosen roots started (numbers_from 1 threads))
some_root [] started threads some rise = absurd (omega (arith, some))
some_root (root ∷ roots) started threads some rise =
    let parts = and_parts (nat_le 1 root && nat_le root threads) (is_rising (root + 1) threads roots) rise in
    let bounds = and_parts (nat_le 1 root) (nat_le root threads) parts.0 in
    let low : 1 ≤ root = leb-true 1 root bounds.0 in
    let high : root ≤ threads = leb-true root threads bounds.1 in
    let own : is_among (root ∷ roots) root ≡ true = or_left (root == root) (is_among roots root) (eq-eqb root root refl) in
    let test : ℕ → Bool = λ thread. is_among (root ∷ roots) thread || is_among started thread in
    let among : is_among (filter test (numbers_from 1 threads)) root ≡ true =
    among_kept test (numbers_from 1 threads) root
    ∙ and_from (test root) (is_among (numbers_from 1 threads) root) (or_left (is_among (root ∷ roots) root) (is_among started root) own)
    ((among_numbers 1 threads root).1 (low, omega (arith, high))) in
    let place = among_to (filter test (numbers_from 1 threads)) root among in
    let within : place.0 < length (filter test (numbers_from 1 threads)) = place.1 in
    omega (arith, within)
