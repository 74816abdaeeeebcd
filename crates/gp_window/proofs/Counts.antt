-- How many holdings pass a test after one is put in or taken away.
use Rattle.std.proofs.Common.{◌≡◌, refl, ℕ, ◌+◌, ◌≤◌, Bool, true, false, List, [], ◌∷◌, ap, sym, arith}
use Rattle.std.specs.Prelude.{◌&&◌, ◌||◌, not, cond, Option, Some, None}
use Rattle.std.specs.List.{count_by, list_any}
use Rattle.std.specs.Cmp.Lexicographic.{slice_cmp}
use Rattle.std.specs.Ordering.{is_eq, match_ordering, nat_cmp}
use Rattle.std.specs.BTreeMap.{is_at}
use Rattle.std.specs.declared.cmp.Ordering.{Ordering}
use Rattle.std.specs.declared.cmp.Ordering.TheVariants.{Less, Equal, Greater}
use Rattle.std.proofs.lemmas.Bool.{false≢true}
use Rattle.std.proofs.lemmas.Cmp.{ranked}
use Rattle.std.proofs.lemmas.List.Sums.{sum_by-cons}
use Rattle.std.proofs.lemmas.Map.Lookups.{exact_bytes, exact_pairs}
use Rattle.gp_base.specs.Table.{value_at, with_entry, without_entry}
use Rattle.gp_trace.specs.declared.lock_use.LockMode.{LockMode}
use Rattle.gp_window.specs.Holders.{Holding, Holdings, holder_cmp}

-- the count of a list by its first entry and the others
pub counted : {X : Type 0} (p : X → Bool) (one : X) (rest : List X) → count_by p (one ∷ rest) ≡ cond {A = ℕ} (p one) 1 0 + count_by p rest
counted p one rest = sum_by-cons (λ x. cond {A = ℕ} (p x) 1 0) one rest

-- places that compare equal are one
same_place : (place other : List ℕ × ℕ) → holder_cmp place other ≡ Equal → place ≡ other
same_place place other is = exact_pairs (slice_cmp nat_cmp) nat_cmp exact_bytes (λ x y e. ranked x y Equal (sym e)) place other is

put_head : (p : Holding → Bool) (order : Ordering) (one : Holding) (held : Holdings) (place : List ℕ × ℕ) (mode : LockMode) → holder_cmp place one.0 ≡ order
    → count_by p (with_entry holder_cmp held place mode) ≤ cond {A = ℕ} (p (place, mode)) 1 0 + count_by p held
    → count_by p (match_ordering order ((place, mode) ∷ one ∷ held) ((one.0, mode) ∷ held) (one ∷ with_entry holder_cmp held place mode))
    ≤ cond {A = ℕ} (p (place, mode)) 1 0 + count_by p (one ∷ held)
put_head p Less one held place mode is rest =
    let put = counted p (place, mode) (one ∷ held) in
    omega arith
put_head p Equal one held place mode is rest =
    let same : place ≡ one.0 = same_place place one.0 is in
    let put = counted p (one.0, mode) held in
    let old = counted p one held in
    let one_test : cond {A = ℕ} (p (place, mode)) 1 0 ≡ cond {A = ℕ} (p (one.0, mode)) 1 0 = ap (λ place. cond {A = ℕ} (p (place, mode)) 1 0) same in
    omega arith
put_head p Greater one held place mode is rest =
    let put = counted p one (with_entry holder_cmp held place mode) in
    let old = counted p one held in
    omega arith

-- one more holding adds at most itself
pub after_put : (p : Holding → Bool) (held : Holdings) (place : List ℕ × ℕ) (mode : LockMode)
    → count_by p (with_entry holder_cmp held place mode) ≤ cond {A = ℕ} (p (place, mode)) 1 0 + count_by p held
after_put p [] place mode = let put = counted p (place, mode) [] in omega arith
after_put p (one ∷ held) place mode = put_head p (holder_cmp place one.0) one held place mode refl (after_put p held place mode)

-- what a holding at a place, where there is one, adds
abbrev pub of_place : (Holding → Bool) → List ℕ × ℕ → Option LockMode → ℕ
of_place p place None = 0
of_place p place (Some mode) = cond {A = ℕ} (p (place, mode)) 1 0

tied : (order : Ordering) → is_eq order ≡ true → order ≡ Equal
tied Less is = absurd (false≢true is)
tied Equal is = refl
tied Greater is = absurd (false≢true is)

drop_head : (p : Holding → Bool) (one : Holding) (held rest : Holdings) (place : List ℕ × ℕ) (old : Option LockMode) (here : Bool)
    → is_at (holder_cmp place) one.0 ≡ here
    → count_by p rest + of_place p place old ≤ count_by p held
    → count_by p (cond (not here) (one ∷ rest) rest) + of_place p place (cond here (Some one.1) old) ≤ count_by p (one ∷ held)
drop_head p one held rest place old true is less =
    let same : place ≡ one.0 = same_place place one.0 (tied (holder_cmp place one.0) is) in
    let all = counted p one held in
    let one_test : cond {A = ℕ} (p (place, one.1)) 1 0 ≡ cond {A = ℕ} (p one) 1 0 = ap (λ place. cond {A = ℕ} (p (place, one.1)) 1 0) same in
    omega arith
drop_head p one held rest place old false is less =
    let all = counted p one held in
    let kept = counted p one rest in
    omega arith

-- a holding that is taken away is no longer counted
pub after_drop : (p : Holding → Bool) (held : Holdings) (place : List ℕ × ℕ)
    → count_by p (without_entry holder_cmp held place) + of_place p place (value_at holder_cmp held place) ≤ count_by p held
after_drop p [] place = omega arith
after_drop p (one ∷ held) place =
    drop_head p one held (without_entry holder_cmp held place) place (value_at holder_cmp held place) (is_at (holder_cmp place) one.0) refl (after_drop p held place)

none_head : (test more : Bool) (count rest : ℕ) (others : Bool) → count ≡ cond test 1 0 + rest → count ≤ 0 → (rest ≤ 0 → others ≡ false)
    → ((test && more) || others) ≡ false
none_head true more count rest others is none left = absurd (omega arith)
none_head false more count rest others is none left = left (omega arith)

-- none passes a test that none is counted for
pub none_counted : {X : Type 0} (p q : X → Bool) (xs : List X) → count_by p xs ≤ 0 → list_any (λ x. p x && q x) xs ≡ false
none_counted p q [] none = refl
none_counted p q (x ∷ xs) none =
    none_head (p x) (q x) (count_by p (x ∷ xs)) (count_by p xs) (list_any (λ x. p x && q x) xs) (counted p x xs) none (none_counted p q xs)

both_head : (one other more : Bool) (count rest : ℕ) (others : Bool) → count ≡ cond {A = ℕ} (one && other) 1 0 + rest → count ≤ 0 → (rest ≤ 0 → others ≡ false)
    → ((one && (other && more)) || others) ≡ false
both_head true true more count rest others is none left = absurd (omega arith)
both_head true false more count rest others is none left = left (omega arith)
both_head false other more count rest others is none left = left (omega arith)

-- none passes two tests that none is counted for
pub none_both : {X : Type 0} (p q more : X → Bool) (xs : List X) → count_by (λ x. p x && q x) xs ≤ 0 → list_any (λ x. p x && (q x && more x)) xs ≡ false
none_both p q more [] none = refl
none_both p q more (x ∷ xs) none =
    both_head (p x) (q x) (more x) (count_by (λ x. p x && q x) (x ∷ xs)) (count_by (λ x. p x && q x) xs) (list_any (λ x. p x && (q x && more x)) xs)
    (counted (λ x. p x && q x) x xs) none (none_both p q more xs)

alone_head : {X : Type 0} (p q : X → Bool) (r : X → X → Bool) (x : X) (xs : List X) (test : Bool) → p x ≡ test → r x x ≡ false
    → count_by p (x ∷ xs) ≡ cond test 1 0 + count_by p xs → count_by p (x ∷ xs) ≤ 1
    → (count_by p xs ≤ 1 → list_any (λ one. p one && (q one && list_any (λ other. p other && r other one) xs)) xs ≡ false)
    → ((test && (q x && ((test && r x x) || list_any (λ other. p other && r other x) xs)))
    || list_any (λ one. p one && (q one && ((test && r x one) || list_any (λ other. p other && r other one) xs))) xs) ≡ false
alone_head p q r x xs true is apart count few rest =
    let none : count_by p xs ≤ 0 = omega arith in
    rw (apart, none_counted p (λ other. r other x) xs none, none_counted p (λ one. q one && (r x one || list_any (λ other. p other && r other one) xs)) xs none) (either_false (q x))
  where
    either_false : (b : Bool) → ((b && false) || false) ≡ false
    either_false true = refl
    either_false false = refl
alone_head p q r x xs false is apart count few rest = rest (omega arith)

-- where at most one passes a test, it has none beside it
pub alone : {X : Type 0} (p q : X → Bool) (r : X → X → Bool) → ((x : X) → r x x ≡ false) → (xs : List X) → count_by p xs ≤ 1
    → list_any (λ one. p one && (q one && list_any (λ other. p other && r other one) xs)) xs ≡ false
alone p q r apart [] few = refl
alone p q r apart (x ∷ xs) few = alone_head p q r x xs (p x) refl (apart x) (counted p x xs) few (alone p q r apart xs)
