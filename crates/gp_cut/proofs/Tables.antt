-- Tables in the order of their keys: what is found at a key after a change, and that tables that tell the same are one.
use Rattle.std.proofs.Common.{◌≡◌, ◌∙◌, refl, ap, sym, subst, Bool, true, false, cond, ◌+◌, ◌≤◌, List, [], ◌∷◌, length, filter, arith}
use Rattle.std.specs.Prelude.{not, Some, None}
use Rattle.std.specs.declared.cmp.Ordering.{Ordering}
use Rattle.std.specs.declared.cmp.Ordering.TheVariants.{Less, Equal, Greater}
use Rattle.std.specs.BTreeMap.{insert_entry, is_at}
use Rattle.std.specs.Cmp.{IsTotalOrder}
use Rattle.std.specs.List.{AllByRecursion}
use Rattle.std.specs.List.Sorted.{IsStrictlySortedBy}
use Rattle.std.specs.Map.{keys_of, lookup}
use Rattle.std.specs.Ordering.{is_eq, match_ordering, ordering_reverse}
use Rattle.std.proofs.lemmas.Bool.{false_from_ne_true}
use Rattle.std.proofs.lemmas.Cmp.{tied_itself}
use Rattle.std.proofs.lemmas.Map.Lookups.{CmpEqualImpliesEq}
use Rattle.gp_base.specs.OrderLaws.{each}
use Rattle.gp_base.specs.Table.{value_at, with_entry, without_entry}
use Rattle.gp_base.specs.TableLaws.{value_after_put}

equal_from : (order : Ordering) → is_eq order ≡ true → order ≡ Equal
equal_from Less e = cc
equal_from Equal e = refl
equal_from Greater e = cc

-- a key is not below itself
pub not_below_itself : {K : Type 0} {R : K → K → Ordering} (o : IsTotalOrder R) (k : K) → R k k ≡ Less → ⊥
not_below_itself o k below = let tied = tied_itself o k in cc

-- a test that fails at a key
not_at : {K : Type 0} {R : K → K → Ordering} → CmpEqualImpliesEq R → (place key : K) → (place ≡ key → ⊥) → is_at (R place) key ≡ false
not_at {R = R} exact place key apart = false_from_ne_true _ (λ tied. apart (exact place key (equal_from (R place key) tied)))

filtered_at : {K V : Type 0} (test p : K → Bool) (b : Bool) (entry : K × V) (entries rest : List (K × V)) (here kept : Bool) → test entry.0 ≡ here → p entry.0 ≡ kept
    → (here ≡ true → kept ≡ b) → lookup test rest ≡ cond b (lookup test entries) None
    → lookup test (cond kept (entry ∷ rest) rest) ≡ cond b (cond here (Some entry.1) (lookup test entries)) None
filtered_at test p b entry entries rest true true is goes one more = rw (is, sym (one refl)) refl
filtered_at test p b entry entries rest true false is goes one more = more ∙ rw (sym (one refl)) refl
filtered_at test p b entry entries rest false true is goes one more = rw is more
filtered_at test p b entry entries rest false false is goes one more = more

-- what is found among entries that are kept by a test of their keys
found_filtered : {K V : Type 0} (test p : K → Bool) (b : Bool) → ((key : K) → test key ≡ true → p key ≡ b) → (entries : List (K × V))
    → lookup test (filter (λ entry. p entry.0) entries) ≡ cond b (lookup test entries) None
found_filtered test p true one [] = refl
found_filtered test p false one [] = refl
found_filtered test p b one (entry ∷ entries) =
    filtered_at test p b entry entries (filter (λ e. p e.0) entries) (test entry.0) (p entry.0) refl refl (one entry.0) (found_filtered test p b one entries)

module _ {K V : Type 0} {R : K → K → Ordering} (o : IsTotalOrder R) (exact : CmpEqualImpliesEq R) where
  -- what was put in is found at its key, and nothing else changes
  pub put_found : (entries : List (K × V)) (key : K) (value : V) → value_at R (with_entry R entries key value) key ≡ Some value
  put_found entries key value =
      value_after_put o entries key key value ∙ ap (λ order. cond (is_eq order) (Some value) (value_at R entries key)) (tied_itself o key)

  pub put_beside : (entries : List (K × V)) (key place : K) (value : V) → (place ≡ key → ⊥)
      → value_at R (with_entry R entries key value) place ≡ value_at R entries place
  put_beside entries key place value apart =
      value_after_put o entries key place value ∙ ap (λ b. cond b (Some value) (value_at R entries place)) (not_at exact place key apart)

  -- nothing is found at a key that was taken away, and nothing else changes
  pub dropped_found : (entries : List (K × V)) (key : K) → value_at R (without_entry R entries key) key ≡ None
  dropped_found entries key = found_filtered (is_at (R key)) (λ other. not (is_at (R key) other)) false (λ other e. ap not e) entries

  pub dropped_beside : (entries : List (K × V)) (key place : K) → (place ≡ key → ⊥)
      → value_at R (without_entry R entries key) place ≡ value_at R entries place
  dropped_beside entries key place apart =
      found_filtered (is_at (R place)) (λ other. not (is_at (R key) other)) true
      (λ other passes. ap not (not_at exact key other (λ is. apart (exact place other (equal_from (R place other) passes) ∙ sym is)))) entries

  -- at a key below all others nothing is found
  none_below : (key : K) (entries : List (K × V)) → AllByRecursion (λ other. R key other ≡ Less) (keys_of entries) → value_at R entries key ≡ None
  none_below key [] below = refl
  none_below key (entry ∷ entries) below = rw below.0 (none_below key entries below.1)

  -- at the first key its value is found
  first_found : (entry : K × V) (entries : List (K × V)) → value_at R (entry ∷ entries) entry.0 ≡ Some entry.1
  first_found entry entries = rw (tied_itself o entry.0) refl

  -- what is found at a key above the first
  later_found : (entry : K × V) (entries : List (K × V)) (key : K) → (key ≡ entry.0 → ⊥) → value_at R (entry ∷ entries) key ≡ value_at R entries key
  later_found entry entries key apart = ap (λ b. cond b (Some entry.1) (value_at R entries key)) (not_at exact key entry.0 apart)

  -- below the first of a table nothing is found
  none_before : (key : K) (entry : K × V) (entries : List (K × V)) → R key entry.0 ≡ Less → IsStrictlySortedBy R (keys_of (entry ∷ entries))
      → value_at R (entry ∷ entries) key ≡ None
  unfolding IsStrictlySortedBy
  none_before key entry entries below rise =
      none_below key (entry ∷ entries)
      (below, each (λ other. R entry.0 other ≡ Less) (λ other. R key other ≡ Less) (λ other less. o.trans key entry.0 other below less) (keys_of entries) rise.0)

  first_key : (order : Ordering) (x y : K × V) (xs ys : List (K × V)) → R x.0 y.0 ≡ order → IsStrictlySortedBy R (keys_of (x ∷ xs))
      → IsStrictlySortedBy R (keys_of (y ∷ ys)) → ((key : K) → value_at R (x ∷ xs) key ≡ value_at R (y ∷ ys) key) → x.0 ≡ y.0
  first_key Less x y xs ys is rise rises same =
      let here = first_found x xs in
      let none = none_before x.0 y ys is rises in
      let one = same x.0 in cc
  first_key Equal x y xs ys is rise rises same = exact x.0 y.0 is
  first_key Greater x y xs ys is rise rises same =
      let below : R y.0 x.0 ≡ Less = o.antisymm y.0 x.0 ∙ ap ordering_reverse is in
      let here = first_found y ys in
      let none = none_before y.0 x xs below rise in
      let one = same y.0 in cc

  same_rest : (x y : K × V) (xs ys : List (K × V)) (key : K) (here : Bool) → is_at (R key) x.0 ≡ here → x.0 ≡ y.0 → IsStrictlySortedBy R (keys_of (x ∷ xs))
      → IsStrictlySortedBy R (keys_of (y ∷ ys)) → ((key : K) → value_at R (x ∷ xs) key ≡ value_at R (y ∷ ys) key) → value_at R xs key ≡ value_at R ys key
  unfolding IsStrictlySortedBy
  same_rest x y xs ys key true at first rise rises same =
      let is : key ≡ x.0 = exact key x.0 (equal_from (R key x.0) at) in
      ap (value_at R xs) is ∙ none_below x.0 xs rise.0 ∙ sym (ap (value_at R ys) (is ∙ first) ∙ none_below y.0 ys rises.0)
  same_rest x y xs ys key false at first rise rises same =
      ap (λ b. cond b (Some x.1) (value_at R xs key)) (sym at) ∙ same key
      ∙ ap (λ b. cond b (Some y.1) (value_at R ys key)) (ap (λ k. is_at (R key) k) (sym first) ∙ at)

  -- tables that tell the same at each key are one
  pub same_tables : (xs ys : List (K × V)) → IsStrictlySortedBy R (keys_of xs) → IsStrictlySortedBy R (keys_of ys)
      → ((key : K) → value_at R xs key ≡ value_at R ys key) → xs ≡ ys
  unfolding IsStrictlySortedBy
  same_tables [] [] rise rises same = refl
  same_tables [] (y ∷ ys) rise rises same = let here = first_found y ys in let none = same y.0 in cc
  same_tables (x ∷ xs) [] rise rises same = let here = first_found x xs in let none = same x.0 in cc
  same_tables (x ∷ xs) (y ∷ ys) rise rises same =
      let first : x.0 ≡ y.0 = first_key (R x.0 y.0) x y xs ys refl rise rises same in
      let found : value_at R (y ∷ ys) x.0 ≡ Some y.1 = ap (value_at R (y ∷ ys)) first ∙ first_found y ys in
      let own : value_at R (x ∷ xs) x.0 ≡ Some x.1 = first_found x xs in
      let told : value_at R (x ∷ xs) x.0 ≡ value_at R (y ∷ ys) x.0 = same x.0 in
      let value : x.1 ≡ y.1 = cc in
      let rest : xs ≡ ys = same_tables xs ys rise.1 rises.1 (λ key. same_rest x y xs ys key (is_at (R key) x.0) refl first rise rises same) in
      λ i. (first i, value i) ∷ rest i

  -- what holds of each entry and of one more
  put_each_at : (P : K × V → Type 0) (order : Ordering) (entry : K × V) (entries : List (K × V)) (key : K) (value : V) → R key entry.0 ≡ order
      → P (key, value) → AllByRecursion P (entry ∷ entries) → AllByRecursion P (with_entry R entries key value)
      → AllByRecursion P (match_ordering order ((key, value) ∷ entry ∷ entries) ((entry.0, value) ∷ entries) (entry ∷ insert_entry R entries key value))
  put_each_at P Less entry entries key value is here all more = (here, all)
  put_each_at P Equal entry entries key value is here all more = (subst (λ k. P (k, value)) (exact key entry.0 is) here, all.1)
  put_each_at P Greater entry entries key value is here all more = (all.0, more)

  pub put_each : (P : K × V → Type 0) (entries : List (K × V)) (key : K) (value : V) → P (key, value) → AllByRecursion P entries
      → AllByRecursion P (with_entry R entries key value)
  put_each P [] key value here all = (here, tt)
  put_each P (entry ∷ entries) key value here all =
      put_each_at P (R key entry.0) entry entries key value refl here all (put_each P entries key value here all.1)

put_more_at : {K V : Type 0} (R : K → K → Ordering) (order : Ordering) (entry : K × V) (entries : List (K × V)) (key : K) (value : V)
    → length (insert_entry R entries key value) ≤ length entries + 1
    → length (match_ordering order ((key, value) ∷ entry ∷ entries) ((entry.0, value) ∷ entries) (entry ∷ insert_entry R entries key value)) ≤ length (entry ∷ entries) + 1
put_more_at R Less entry entries key value more = omega arith
put_more_at R Equal entry entries key value more = omega arith
put_more_at R Greater entry entries key value more = omega (arith, more)

-- one entry more at most
pub put_more : {K V : Type 0} (R : K → K → Ordering) (entries : List (K × V)) (key : K) (value : V) → length (with_entry R entries key value) ≤ length entries + 1
put_more R [] key value = omega arith
put_more R (entry ∷ entries) key value = put_more_at R (R key entry.0) entry entries key value (put_more R entries key value)

kept_at : {X : Type 0} (b : Bool) (x : X) (kept xs : List X) → length kept ≤ length xs → length (cond b (x ∷ kept) kept) ≤ length (x ∷ xs)
kept_at true x kept xs less = omega (arith, less)
kept_at false x kept xs less = omega (arith, less)

-- no more are kept than there are
pub kept_few : {X : Type 0} (p : X → Bool) (xs : List X) → length (filter p xs) ≤ length xs
kept_few p [] = omega arith
kept_few p (x ∷ xs) = kept_at (p x) x (filter p xs) xs (kept_few p xs)
