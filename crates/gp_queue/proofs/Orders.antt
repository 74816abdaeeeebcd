use Rattle.std.proofs.Common.{◌≡◌, ℕ, ◌+◌, ◌-◌, ◌<◌, ◌≤◌, ◌^◌, zero, suc, not, false, true, List, [], ◌∷◌, ◌++◌, length, get_or, take, drop, replicate, refl, sym, ◌∙◌, ap, subst, arith}
use Rattle.std.specs.Prelude.{◌==◌, filter, slice_get, Contains, IsPermutation, slice_index, Option, Some, None}
use Rattle.std.specs.List.{range_with_len, AllByRecursion}
use Rattle.std.specs.Option.{IfSome, SomeIff}
use Rattle.std.proofs.lemmas.List.{length-append, take-append-drop, drop_more, get_or_read, take_all}
use Rattle.std.proofs.lemmas.List.Elements.{filter-append}
use Rattle.std.proofs.lemmas.List.FromFn.{length-range_with_len, get_or-range_with_len}
use Rattle.std.proofs.lemmas.List.Sorted.{IsPermutation-trans, IsPermutation-middle, IsPermutation-append_left, Contains-permutation}
use Rattle.std.proofs.lemmas.Bool.{eq-eqb, ne_eqb}
use Rattle.gp_queue.specs.Order.{numbers_between, IsOrder, moved_to_front, next_of}
use Rattle.gp_queue.specs.Links.{IsOff, IsOnce, IsRing, IsQueue, order_of, walk, first_place}
use Rattle.gp_queue.proofs.Rings.{longer}
use Rattle.gp_queue.proofs.Chains.{walk_chain, back_chain, chain_first, off_without, off_front, off_back, below_back}

-- a run of numbers, and one more at its end; or two runs, one after the other
range_more : (a k : ℕ) → range_with_len a (k + 1) ≡ range_with_len a k ++ (a + k) ∷ []
range_more a zero = let e : a + 0 ≡ a = omega arith in ap (λ n. n ∷ []) (sym e)
range_more a (suc k) =
    let one : suc k + 1 ≡ suc (k + 1) = omega arith in
    let at : a + 1 + k ≡ a + suc k = omega arith in
    ap (range_with_len a) one ∙ ap (λ l. a ∷ l) (range_more (a + 1) k) ∙ ap (λ n. a ∷ (range_with_len (a + 1) k ++ n ∷ [])) at

range_both : (a k m : ℕ) → range_with_len a (k + m) ≡ range_with_len a k ++ range_with_len (a + k) m
range_both a zero m = let e : 0 + m ≡ m = omega arith in let z : a + 0 ≡ a = omega arith in ap (range_with_len a) e ∙ ap (λ n. range_with_len n m) (sym z)
range_both a (suc k) m =
    let one : suc k + m ≡ suc (k + m) = omega arith in
    let at : a + 1 + k ≡ a + suc k = omega arith in
    ap (range_with_len a) one ∙ ap (λ l. a ∷ l) (range_both (a + 1) k m) ∙ ap (λ n. a ∷ (range_with_len (a + 1) k ++ range_with_len n m)) at

-- a run of numbers with one more, a run in two parts, and the length of a run
pub numbers_more : (low high : ℕ) → low ≤ high → numbers_between low (high + 1) ≡ numbers_between low high ++ high ∷ []
numbers_more low high le =
    let one : high + 1 - low ≡ high - low + 1 = omega arith in
    let at : low + (high - low) ≡ high = omega arith in
    ap (range_with_len low) one ∙ range_more low (high - low) ∙ ap (λ n. range_with_len low (high - low) ++ n ∷ []) at

pub numbers_both : (mid high : ℕ) → mid ≤ high → numbers_between 0 high ≡ numbers_between 0 mid ++ numbers_between mid high
numbers_both mid high le =
    let sum : high - 0 ≡ (mid - 0) + (high - mid) = omega arith in
    let at : 0 + (mid - 0) ≡ mid = omega arith in
    ap (range_with_len 0) sum ∙ range_both 0 (mid - 0) (high - mid) ∙ ap (λ n. range_with_len 0 (mid - 0) ++ range_with_len n (high - mid)) at

pub length_numbers : (low high : ℕ) → length (numbers_between low high) ≡ high - low
length_numbers low high = length-range_with_len low (high - low)

-- a list parts at each of its elements
pub record IsPartedAt (order : List ℕ) (i : ℕ) (front back : List ℕ) : Type 0 where
  pub is : order ≡ front ++ i ∷ back

parted : (order : List ℕ) (i : ℕ) → Contains order i → (front : List ℕ) × (back : List ℕ) × IsPartedAt order i front back
parted order i h =
    let k : ℕ = h.0 in
    let lt : k < length order = h.1 in (
      take k order,
      drop (k + 1) order,
      record {
        is = sym (take-append-drop k order) ∙ ap (λ l. take k order ++ l) (drop_more order k i lt ∙ ap (λ x. x ∷ drop (k + 1) order) h.2);
      },
    )

-- an order parts at each number below its length
pub parted_at : (order : List ℕ) (i : ℕ) → IsOrder order → i < length order → (front : List ℕ) × (back : List ℕ) × IsPartedAt order i front back
parted_at order i perm lt =
    let n : ℕ = length order - 0 in
    let inside : i < length (range_with_len 0 n) = omega (arith, length-range_with_len 0 n) in
    let low : i < n = omega arith in
    let here : get_or (range_with_len 0 n) i i ≡ i = let e : 0 + i ≡ i = omega arith in get_or-range_with_len 0 n i i low ∙ e in
    parted order i (Contains-permutation (range_with_len 0 n) order i perm (i, inside, here))

-- taking out a number that is not there changes nothing
filter_off : (i : ℕ) (xs : List ℕ) → IsOff (i + 1) xs → filter (λ x. not (x == i)) xs ≡ xs
filter_off i [] h = refl
filter_off i (x ∷ xs) h =
    let ne : (x == i) ≡ false = ne_eqb x i (λ e. h.0 (ap (λ n. n + 1) (sym e))) in
    rw ne (ap (λ l. x ∷ l) (filter_off i xs h.1))

-- where the number stands between two parts, moving it to the front joins them behind it
pub moved : (front : List ℕ) (i : ℕ) (back : List ℕ) → IsOnce (front ++ i ∷ back) → moved_to_front i (front ++ i ∷ back) ≡ i ∷ (front ++ back)
moved front i back once =
    let off = off_without front i back once in
    let same : (i == i) ≡ true = eq-eqb i i refl in
    let rest : filter (λ x. not (x == i)) (i ∷ back) ≡ back = rw same (filter_off i back (off_back (i + 1) front back off)) in
    ap (λ l. i ∷ l) (filter-append (λ x. not (x == i)) front (i ∷ back)
    ∙ ap (λ l. l ++ filter (λ x. not (x == i)) (i ∷ back)) (filter_off i front (off_front (i + 1) front back off))
    ∙ ap (λ l. front ++ l) rest)

next_at : (i : ℕ) (front back : List ℕ) → IsOff (i + 1) front → next_of i (front ++ i ∷ back) ≡ slice_get back 0
next_at i [] back off = let same : (i == i) ≡ true = eq-eqb i i refl in rw same refl
next_at i (x ∷ xs) back off =
    let ne : (x == i) ≡ false = ne_eqb x i (λ e. off.0 (ap (λ n. n + 1) (sym e))) in
    rw ne (next_at i xs back off.1)

-- where the number stands between two parts, the second begins with the one after it
pub next_parted : (i : ℕ) (front back : List ℕ) → IsOnce (front ++ i ∷ back) → next_of i (front ++ i ∷ back) ≡ slice_get back 0
next_parted i front back once = next_at i front back (off_front (i + 1) front back (off_without front i back once))

-- the links of an order lead from each number's place to where the rest of the order begins
pub next_place : (next prev order : List ℕ) (i : ℕ) (front back : List ℕ) → IsQueue next prev order → order ≡ front ++ i ∷ back →
    get_or next (i + 1) 0 ≡ first_place back 0
next_place next prev order i front back queue e =
    let ring : IsRing next prev (length order) (front ++ i ∷ back) = subst (λ o. IsRing next prev (length order) o) e queue.ring in
    let chain = back_chain (slice_index next) (slice_index prev) 0 front (i ∷ back) 0 ring.linked in
    chain_first (slice_index next) (slice_index prev) (i + 1) back 0 chain.1

-- the links of an order spell that order
pub spelt : (next prev order : List ℕ) → IsQueue next prev order → order_of next ≡ order
spelt next prev order queue =
    let size : length next - 1 ≡ length order = omega (arith, queue.size) in
    ap (λ n. walk (slice_index next) n (slice_index next 0)) size ∙ walk_chain (slice_index next) (slice_index prev) 0 order 0 queue.ring.linked

-- the arrays of a ring with the number in front are the links of the order with it moved there
pub queue_moved : (next prev next' prev' order : List ℕ) (front : List ℕ) (i : ℕ) (back : List ℕ) → IsQueue next prev order →
    order ≡ front ++ i ∷ back → length next' ≡ length next → IsRing next' prev' (length order) (i ∷ (front ++ back)) →
    IsQueue next' prev' (moved_to_front i order)
queue_moved next prev next' prev' order front i back queue e same ring =
    let once : IsOnce (front ++ i ∷ back) = subst (λ o. IsOnce o) e queue.ring.once in
    let new : moved_to_front i order ≡ i ∷ (front ++ back) = ap (moved_to_front i) e ∙ moved front i back once in
    let long : length order ≡ length (i ∷ (front ++ back)) =
    ap length e ∙ (let l : length (front ++ i ∷ back) ≡ length (i ∷ (front ++ back)) = omega (arith, length-append front (i ∷ back), length-append front back) in l) in
    let perm : IsPermutation (numbers_between 0 (length order)) (front ++ i ∷ back) = subst (λ o. IsPermutation (numbers_between 0 (length order)) o) e queue.numbers in
    let size : length next ≡ length order + 1 = queue.size in
    let small : length order < 2 ^ 32 = queue.fits in
    subst (λ o. IsQueue next' prev' o) (sym new) (record {
      ring = subst (λ n. IsRing next' prev' n (i ∷ (front ++ back))) long ring;
      size = omega arith;
      fits = omega arith;
      numbers = subst (λ n. IsPermutation (numbers_between 0 n) (i ∷ (front ++ back))) long
          (IsPermutation-trans (numbers_between 0 (length order)) (front ++ i ∷ back) (i ∷ (front ++ back)) perm (IsPermutation-middle front i back));
    })

-- the arrays of a ring with the new numbers at its end are the links of the order with them behind
pub queue_grown : (next prev next' prev' order : List ℕ) (n : ℕ) → IsQueue next prev order → length order ≤ n → n < 2 ^ 32 → length next' ≡ n + 1 →
    IsRing next' prev' n (order ++ numbers_between (length order) n) → IsQueue next' prev' (order ++ numbers_between (length order) n)
queue_grown next prev next' prev' order n queue le small size ring =
    let long : n ≡ length (order ++ numbers_between (length order) n) =
    omega (arith, length-append order (numbers_between (length order) n), length_numbers (length order) n) in
    let perm : IsPermutation (numbers_between 0 n) (order ++ numbers_between (length order) n) =
    subst (λ l. IsPermutation l (order ++ numbers_between (length order) n)) (sym (numbers_both (length order) n le))
    (IsPermutation-append_left (numbers_between (length order) n) (numbers_between 0 (length order)) order queue.numbers) in
    record {
      ring = subst (λ m. IsRing next' prev' m (order ++ numbers_between (length order) n)) long ring;
      size = omega (arith, size, long);
      fits = omega (arith, small, long);
      numbers = subst (λ m. IsPermutation (numbers_between 0 m) (order ++ numbers_between (length order) n)) long perm;
    }

-- what stands first in a part of an order is below its length
pub first_is_below : (n : ℕ) (xs : List ℕ) → AllByRecursion (λ x. x < n) xs → IfSome (slice_get xs 0) (λ x. x < n)
first_is_below n [] h = tt
first_is_below n (x ∷ xs) h = h.0

-- a place less one is the number there, and the end has none
read_number : (v : ℕ) (r : Option ℕ) (xs : List ℕ) → SomeIff r (1 ≤ v) (v - 1) → v ≡ first_place xs 0 → r ≡ slice_get xs 0
read_number v None [] h e = refl
read_number v None (x ∷ xs) h e = absurd (h (omega arith))
read_number v (Some y) [] h e = let le : 1 ≤ v = h.0 in absurd (omega arith)
read_number v (Some y) (x ∷ xs) h e = let is : y ≡ x = omega (arith, h.1) in ap Some (is)

-- what stands after a number, read from the links of its order
pub after_read : (next prev order : List ℕ) (i v : ℕ) (r : Option ℕ) (front back : List ℕ) → IsQueue next prev order → i < length order →
    v ≡ get_or next (i + 1) v → SomeIff r (1 ≤ v) (v - 1) → order ≡ front ++ i ∷ back → r ≡ slice_get back 0
after_read next prev order i v r front back queue lt read gives e =
    let inside : i + 1 < length next = omega (arith, queue.size) in
    read_number v r back gives (get_or_read next (i + 1) v inside read 0 ∙ next_place next prev order i front back queue e)

-- the same by the list alone, and that it is one of its numbers
pub after_is : (next prev order : List ℕ) (i v : ℕ) (r : Option ℕ) → IsQueue next prev order → i < length order →
    v ≡ get_or next (i + 1) v → SomeIff r (1 ≤ v) (v - 1) → r ≡ next_of i order
after_is next prev order i v r queue lt read gives =
    let p = parted_at order i queue.numbers lt in
    let e : order ≡ p.0 ++ i ∷ p.1 = p.2.is in
    let once : IsOnce (p.0 ++ i ∷ p.1) = subst (λ o. IsOnce o) e queue.ring.once in
    after_read next prev order i v r p.0 p.1 queue lt read gives e ∙ sym (next_parted i p.0 p.1 once) ∙ ap (next_of i) (sym e)

pub after_is_below : (next prev order : List ℕ) (i v : ℕ) (r : Option ℕ) → IsQueue next prev order → i < length order →
    v ≡ get_or next (i + 1) v → SomeIff r (1 ≤ v) (v - 1) → IfSome r (λ j. j < length order)
after_is_below next prev order i v r queue lt read gives =
    let p = parted_at order i queue.numbers lt in
    let e : order ≡ p.0 ++ i ∷ p.1 = p.2.is in
    let below = subst (λ o. AllByRecursion (λ x. x < length order) o) e queue.ring.below in
    let rest = below_back (length order) p.0 (i ∷ p.1) below in
    subst (λ s. IfSome s (λ j. j < length order)) (sym (after_read next prev order i v r p.0 p.1 queue lt read gives e)) (first_is_below (length order) p.1 rest.1)

-- the ring of an order parts at each of its numbers, in arrays that hold what the links do
pub ring_parted : (next prev order next' prev' : List ℕ) (i : ℕ) → IsQueue next prev order → i < length order → next' ≡ next → prev' ≡ prev →
    (count : ℕ) × (front : List ℕ) × (back : List ℕ) × IsRing next' prev' count (front ++ i ∷ back)
ring_parted next prev order next' prev' i queue lt n p =
    let at = parted_at order i queue.numbers lt in
    let ring : IsRing next prev (length order) (at.0 ++ i ∷ at.1) = subst (λ o. IsRing next prev (length order) o) at.2.is queue.ring in (
      length order,
      at.0,
      at.1,
      subst (λ l. IsRing l prev' (length order) (at.0 ++ i ∷ at.1)) (sym n)
          (subst (λ l. IsRing next l (length order) (at.0 ++ i ∷ at.1)) (sym p) ring),
    )

-- where the ring moved the number to its front, so did the order
pub order_moved : (next prev order next' prev' new_next new_prev : List ℕ) (i : ℕ) → IsQueue next prev order → i < length order →
    next' ≡ next → prev' ≡ prev → length new_next ≡ length next' →
    ((count : ℕ) (front back : List ℕ) → IsRing next' prev' count (front ++ i ∷ back) → IsRing new_next new_prev count (i ∷ (front ++ back))) →
    IsQueue new_next new_prev (moved_to_front i order)
order_moved next prev order next' prev' new_next new_prev i queue lt n p long moves =
    let at = parted_at order i queue.numbers lt in
    let ring : IsRing next prev (length order) (at.0 ++ i ∷ at.1) = subst (λ o. IsRing next prev (length order) o) at.2.is queue.ring in
    let read : IsRing next' prev' (length order) (at.0 ++ i ∷ at.1) =
    subst (λ l. IsRing l prev' (length order) (at.0 ++ i ∷ at.1)) (sym n) (subst (λ l. IsRing next l (length order) (at.0 ++ i ∷ at.1)) (sym p) ring) in
    queue_moved next prev new_next new_prev order at.0 i at.1 queue at.2.is (long ∙ ap length n) (moves (length order) at.0 at.1 read)

-- a queue whose arrays are written back: its links spell its order
pub written_back : (next prev new_next new_prev order : List ℕ) → next ≡ new_next → prev ≡ new_prev → IsQueue new_next new_prev order →
    IsQueue next prev (order_of next)
written_back next prev new_next new_prev order n p queue =
    subst (λ l. IsQueue l prev (order_of l)) (sym n)
    (subst (λ l. IsQueue new_next l (order_of new_next)) (sym p) (subst (λ o. IsQueue new_next new_prev o) (sym (spelt new_next new_prev order queue)) queue))

pub spelt_back : (next new_next new_prev order : List ℕ) → next ≡ new_next → IsQueue new_next new_prev order → order_of next ≡ order
spelt_back next new_next new_prev order n queue = ap order_of n ∙ spelt new_next new_prev order queue

-- arrays that were made longer and filled up are the old ones with more at their ends
resized : (xs held : List ℕ) (n a : ℕ) → held ≡ xs → a ≡ length held → length xs ≤ n → take n held ++ replicate (n - a) 0 ≡ xs ++ replicate (n - length xs) 0
resized xs held n a e l le =
    let same : a ≡ length xs = l ∙ ap length e in
    ap (λ k. take n held ++ replicate (n - k) 0) same ∙ ap (λ l. take n l ++ replicate (n - length xs) 0) e
    ∙ ap (λ l. l ++ replicate (n - length xs) 0) (take_all n xs le)

-- a queue's ring stands in its arrays after they were made longer, and lent
pub ring_resized : (next prev order held next' prev' lent_next lent_prev : List ℕ) (n a b len : ℕ) → IsQueue next prev order → len ≡ length order → len ≤ n →
    a ≡ length next → held ≡ prev → b ≡ length held → next' ≡ take (n + 1) next ++ replicate (n + 1 - a) 0 → prev' ≡ take (n + 1) held ++ replicate (n + 1 - b) 0 →
    lent_next ≡ next' → lent_prev ≡ prev' → IsRing lent_next lent_prev len order
ring_resized next prev order held next' prev' lent_next lent_prev n a b len queue e le long h held_long is_next is_prev lent_n lent_p =
    let size : length next ≡ length order + 1 = queue.size in
    let sizes : length prev ≡ length next = queue.ring.sizes in
    let more : List ℕ = replicate (n + 1 - length next) 0 in
    let fits : length next ≤ n + 1 = omega arith in
    let n_is : lent_next ≡ next ++ more = lent_n ∙ is_next ∙ resized next next (n + 1) a refl long fits in
    let p_is : lent_prev ≡ prev ++ more = lent_p ∙ is_prev ∙ resized prev held (n + 1) b h held_long (omega arith)
    ∙ ap (λ k. prev ++ replicate (n + 1 - k) 0) sizes in
    subst (λ l. IsRing l lent_prev len order) (sym n_is) (subst (λ l. IsRing (next ++ more) l len order) (sym p_is)
    (subst (λ k. IsRing (next ++ more) (prev ++ more) k order) (sym e) (longer next prev more (length order) order queue.ring)))

-- where the ring took in the new numbers at its end, so did the order
pub order_grown : (next prev order lent_next lent_prev new_next new_prev : List ℕ) (n len : ℕ) → IsQueue next prev order → len ≡ length order → len ≤ n →
    n < 2 ^ 32 → length new_next ≡ n + 1 → IsRing lent_next lent_prev len order →
    ((o : List ℕ) → IsRing lent_next lent_prev len o → IsRing new_next new_prev n (o ++ numbers_between len n)) →
    IsQueue new_next new_prev (order ++ numbers_between (length order) n)
order_grown next prev order lent_next lent_prev new_next new_prev n len queue e le small size ring grows =
    queue_grown next prev new_next new_prev order n queue (omega arith) small size
    (subst (λ k. IsRing new_next new_prev n (order ++ numbers_between k n)) e (grows order ring))

-- the order that the opened fields spell
pub opened : (next prev order : List ℕ) → order_of next ≡ order → IsQueue next prev (order_of next) → IsQueue next prev order
opened next prev order view queue = subst (λ o. IsQueue next prev o) view queue

-- links spell as many numbers as there are places beside the end's
length_walk : (next : ℕ → ℕ) (steps place : ℕ) → length (walk next steps place) ≡ steps
length_walk next zero place = refl
length_walk next (suc steps) place = ap suc (length_walk next steps (next place))

pub length_spelt : (next written : List ℕ) (n : ℕ) → next ≡ written → length written ≡ n + 1 → length (order_of next) ≡ n
length_spelt next written n e long =
    length_walk (slice_index next) (length next - 1) (slice_index next 0) ∙ omega (arith, ap length e, long)
