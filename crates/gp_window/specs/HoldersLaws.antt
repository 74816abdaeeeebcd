-- Laws: the order of locks and threads is total and exact, and tells which thread stands at which lock.
use Rattle.std.specs.Prelude.{◌≡◌, ℕ, true, false, List, Contains}
use Rattle.std.specs.declared.cmp.Ordering.{Ordering}
use Rattle.std.specs.declared.cmp.Ordering.TheVariants.{Less, Equal, Greater}
use Rattle.std.specs.BTreeMap.{is_at}
use Rattle.std.specs.Cmp.{IsTotalOrder}
use Rattle.std.specs.Cmp.Lexicographic.{slice_cmp}
use Rattle.std.specs.Ordering.{is_eq, nat_cmp, ordering_then}
use Rattle.std.proofs.Common.{refl, sym, ap}
use Rattle.std.proofs.lemmas.Bool.{false_from_ne_true, false≢true}
use Rattle.std.proofs.lemmas.Cmp.{eq_by_cmp_equiv, nat_cmp_total, nat_list_cmp_total, on_total, ranked, then_total, tied_itself}
use Rattle.std.proofs.lemmas.Map.Lookups.{exact_bytes}
use Rattle.std.proofs.lemmas.Map.Views.{Contains-from_any, list_any-from_Contains}
use Rattle.gp_window.specs.Formed.{stands_at}
use Rattle.gp_window.specs.Holders.{holder_cmp}

-- the order is total
pub holder_total : IsTotalOrder holder_cmp
holder_total =
    then_total (on_total (λ (pair : List ℕ × ℕ). pair.0) nat_list_cmp_total) (on_total (λ (pair : List ℕ × ℕ). pair.1) nat_cmp_total)

-- two orders, one after the other, tie where both do
both_tie : (first second : Ordering) → is_eq (ordering_then first second) ≡ true → (first ≡ Equal) × (second ≡ Equal)
both_tie Less second e = absurd (false≢true e)
both_tie Equal Less e = absurd (false≢true e)
both_tie Equal Equal e = (refl, refl)
both_tie Equal Greater e = absurd (false≢true e)
both_tie Greater second e = absurd (false≢true e)

-- a thread that is found at a lock is that thread at that lock
pub found_is_same : (lock : List ℕ) (thread : ℕ) (pair : List ℕ × ℕ) → is_at (holder_cmp (lock, thread)) pair ≡ true
    → (lock ≡ pair.0) × (thread ≡ pair.1)
found_is_same lock thread pair e =
    let ties = both_tie (slice_cmp nat_cmp lock pair.0) (nat_cmp thread pair.1) e in
    (exact_bytes lock pair.0 ties.0, ranked thread pair.1 Equal (sym ties.1))

-- and the two pairs are one
pub found_pair : (one other : List ℕ × ℕ) → is_at (holder_cmp one) other ≡ true → one ≡ other
found_pair one other e = let same = found_is_same one.0 one.1 other e in λ i. (same.0 i, same.1 i)

-- each thread is found at its lock
pub found_itself : (pair : List ℕ × ℕ) → is_at (holder_cmp pair) pair ≡ true
found_itself pair = ap is_eq (tied_itself holder_total pair)

-- another thread, or another lock, is not found
pub not_found : (lock : List ℕ) (thread : ℕ) (pair : List ℕ × ℕ) → (lock ≡ pair.0 → thread ≡ pair.1 → ⊥)
    → is_at (holder_cmp (lock, thread)) pair ≡ false
not_found lock thread pair apart =
    false_from_ne_true _ (λ e. let same = found_is_same lock thread pair e in apart same.0 same.1)

-- a thread stands at a lock exactly where the pairs contain the two
pub stands_from : (pairs : List (List ℕ × ℕ)) (lock : List ℕ) (thread : ℕ) → Contains pairs (lock, thread) → stands_at pairs lock thread ≡ true
stands_from pairs lock thread has = list_any-from_Contains (eq_by_cmp_equiv holder_total) (lock, thread) pairs has

pub stands_to : (pairs : List (List ℕ × ℕ)) (lock : List ℕ) (thread : ℕ) → stands_at pairs lock thread ≡ true → Contains pairs (lock, thread)
stands_to pairs lock thread stands = Contains-from_any found_pair (lock, thread) pairs stands
