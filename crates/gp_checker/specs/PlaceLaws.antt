-- Laws: what stands at a place of lists that go together.
use Rattle.std.proofs.Common.{◌≡◌, refl, sym, ap, ◌∙◌, subst, ℕ, zero, suc, ◌+◌, ◌<◌, ◌≤◌, List, [], ◌∷◌, Bor, Option, None, Some, length, map, arith}
use Rattle.std.specs.List.{AllByRecursion, AllZip, enumerate_from, slice_get}
use Rattle.std.specs.Option.{option_map}
use Rattle.std.specs.Slice.{IsItemAt}
use Rattle.std.proofs.lemmas.Option.{none-some, same_Some, slice_get_past, slice_get_read}
use Rattle.std.proofs.lemmas.List.FromFn.{length-enumerate_from}
use Rattle.gp_window.specs.WindowForm.{numbers_from}

-- a pair, where the second list has something
pub zip_at : {A B : Type 0} (R : A → B → Type 0) (xs : List A) (ys : List B) (k : ℕ) (y : B) → AllZip R xs ys → slice_get ys k ≡ Some y → (x : A) × (slice_get xs k ≡ Some x) × R x y
zip_at R [] [] k y zip got = absurd (none-some y got)
zip_at R [] (other ∷ ys) k y zip got = absurd zip
zip_at R (one ∷ xs) [] k y zip got = absurd zip
zip_at R (one ∷ xs) (other ∷ ys) zero y zip got = (one, refl, subst (R one) (same_Some other y got) zip.0)
zip_at R (one ∷ xs) (other ∷ ys) (suc k) y zip got = zip_at R xs ys k y zip.1 got

-- what is lent of a place is what stands there
pub lent_at : {X : Type 0} (xs : List X) (k : ℕ) (lent : Option (Bor X)) → IsItemAt xs k lent → slice_get xs k ≡ option_map (λ (x : Bor X). x.now) lent
lent_at xs k (Some x) is = slice_get_read xs (length xs) k x.now refl is.3.0 (is.3.1 x.now)
lent_at xs k None is = slice_get_past xs k is.3

-- what stands at a place
pub one_at : {X : Type 0} (xs : List X) (k : ℕ) → k < length xs → (x : X) × (slice_get xs k ≡ Some x)
one_at [] k below = absurd (omega (arith, below))
one_at (x ∷ xs) zero below = (x, refl)
one_at (x ∷ xs) (suc k) below = one_at xs k (omega (arith, below))

-- an element of which something holds
pub all_at : {A : Type 0} (P : A → Type 0) (xs : List A) (k : ℕ) (x : A) → AllByRecursion P xs → slice_get xs k ≡ Some x → P x
all_at P [] k x all got = absurd (none-some x got)
all_at P (one ∷ xs) zero x all got = subst P (same_Some one x got) all.0
all_at P (one ∷ xs) (suc k) x all got = all_at P xs k x all.1 got

-- a numbered element
pub numbered_at : {A : Type 0} (n : ℕ) (xs : List A) (k : ℕ) (x : A) (pair : ℕ × A) → slice_get xs k ≡ Some x → slice_get (enumerate_from n xs) k ≡ Some pair → (n + k, x) ≡ pair
numbered_at n [] k x pair got numbered = absurd (none-some x got)
numbered_at n (one ∷ xs) zero x pair got numbered =
    let number : n + zero ≡ n = omega arith in
    (λ i. (number i, sym (same_Some one x got) i)) ∙ same_Some (n, one) pair numbered
numbered_at n (one ∷ xs) (suc k) x pair got numbered =
    let number : n + suc k ≡ n + 1 + k = omega arith in (λ i. (number i, x)) ∙ numbered_at (n + 1) xs k x pair got numbered

-- what stands for a number, and that there are as many
pub counted_at : {A : Type 0} (f : ℕ → A) (first count k : ℕ) (x : A) → slice_get (map f (numbers_from first count)) k ≡ Some x → (k < count) × (x ≡ f (first + k))
counted_at f first zero k x got = absurd (none-some x got)
counted_at f first (suc count) zero x got = let number : first ≡ first + zero = omega arith in (omega arith, sym (same_Some (f first) x got) ∙ ap f number)
counted_at f first (suc count) (suc k) x got =
    let rest = counted_at f (first + 1) count k x got in
    let number : first + 1 + k ≡ first + suc k = omega arith in
    (omega (arith, rest.0), rest.1 ∙ ap f number)

-- a numbered element, from 0 on
pub numbered_there : {A : Type 0} (n : ℕ) (xs : List A) (k : ℕ) (x : A) → slice_get xs k ≡ Some x → slice_get (enumerate_from n xs) k ≡ Some (n + k, x)
numbered_there n [] k x got = absurd (none-some x got)
numbered_there n (one ∷ xs) zero x got = let number : n ≡ n + zero = omega arith in λ i. Some (number i, same_Some one x got i)
numbered_there n (one ∷ xs) (suc k) x got =
    let number : n + 1 + k ≡ n + suc k = omega arith in numbered_there (n + 1) xs k x got ∙ ap (λ (m : ℕ). Some (m, x)) number

pub numbered_first : {A : Type 0} (xs : List A) (k : ℕ) (x : A) → slice_get xs k ≡ Some x → slice_get (enumerate_from 0 xs) k ≡ Some (k, x)
numbered_first xs k x got = let number : 0 + k ≡ k = omega arith in numbered_there 0 xs k x got ∙ ap (λ (m : ℕ). Some (m, x)) number

-- there are no more
pub numbered_past : {A : Type 0} (xs : List A) (k : ℕ) → length xs ≤ k → slice_get (enumerate_from 0 xs) k ≡ None
numbered_past xs k past = let size = length-enumerate_from 0 xs in slice_get_past (enumerate_from 0 xs) k (omega (arith, past, size))
