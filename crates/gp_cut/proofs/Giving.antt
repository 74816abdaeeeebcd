-- The values that variables have when the windows that were cut out begin.
use Rattle.std.proofs.Common.{◌≡◌, ◌∙◌, refl, ap, subst, inl, inr, true, ℕ, ℤ, zero, suc, ◌+◌, ◌-◌, ◌<◌, ◌≤◌, List, [], ◌∷◌, ◌++◌, map, arith, append-nil, eq-eqb, eqb-true, lt-ltb, ltb-true, ne_eqb}
use Rattle.std.specs.Prelude.{All, Contains, ◌==◌, filter, nat_le, nat_lt}
use Rattle.std.specs.declared.cmp.Ordering.{Ordering}
use Rattle.std.specs.declared.cmp.Ordering.TheVariants.{Less}
use Rattle.std.specs.Cmp.Lexicographic.{slice_cmp}
use Rattle.std.specs.List.{AllByRecursion}
use Rattle.std.specs.List.Sorted.{IsStrictlySortedBy}
use Rattle.std.specs.Ordering.{nat_cmp, ordering_then}
use Rattle.std.proofs.lemmas.Bool.{and_from, and_parts, cases_Bool, le-leb, leb-true}
use Rattle.std.proofs.lemmas.Bool.Decides.{nat_tests}
use Rattle.std.proofs.lemmas.Cmp.{nat_list_cmp_total}
use Rattle.std.proofs.lemmas.List.Elements.{All-from_recursion, filter-append}
use Rattle.gp_base.specs.FilterLaws.{contains_from_filter, pairwise_filter}
use Rattle.gp_base.specs.ListLaws.{contains_from_map, Pairwise, pairwise_append, pairwise_map, recursion_append, recursion_at, recursion_map}
use Rattle.gp_base.specs.OrderLaws.{put_all_in_order, put_rises}
use Rattle.gp_base.specs.Table.{with_entries, with_entry}
use Rattle.gp_window.specs.declared.manifest.StartValue.{StartValue}
use Rattle.gp_window.specs.Formed.{HasRisingNames}
use Rattle.gp_window.specs.ManifestForm.{IsInside, place_cmp, place_of}
use Rattle.gp_window.specs.WindowForm.{given_all, values_at}
use Rattle.gp_cut.specs.Cut.{cut_values, first_value, is_later, moved}

-- values are in the order of their names
given_rise : (values : List (List ℕ × ℤ)) (given : List StartValue) → HasRisingNames values → HasRisingNames (given_all values given)
given_rise values [] rise = rise
given_rise values (one ∷ given) rise =
    given_rise (with_entry (slice_cmp nat_cmp) values one.variable one.value) given (put_rises nat_list_cmp_total values one.variable one.value rise)

values_rise : (given : List StartValue) (k : ℕ) → HasRisingNames (values_at given k)
unfolding IsStrictlySortedBy
values_rise given zero = tt
values_rise given (suc k) = given_rise (values_at given k) (filter (λ value. value.window == suc k) given) (values_rise given k)

-- values that are given for the first window behind the stage are given for no other
firsts_there : (values : List (List ℕ × ℤ)) → filter (λ value. value.window == 2) (map first_value values) ≡ map first_value values
firsts_there [] = refl
firsts_there (value ∷ values) = ap (λ rest. first_value value ∷ rest) (firsts_there values)

firsts_elsewhere : (window : ℕ) (values : List (List ℕ × ℤ)) → (2 ≡ window → ⊥) → filter (λ value. value.window == window) (map first_value values) ≡ []
firsts_elsewhere window [] apart = refl
firsts_elsewhere window (value ∷ values) apart = rw (ne_eqb 2 window apart) (firsts_elsewhere window values apart)

-- a value that is given for a later window is given for one behind the first
later_bounds : (before count : ℕ) (value : StartValue) → is_later before count value ≡ true → (before + 1 < value.window) × (value.window ≤ before + count)
later_bounds before count value later =
    let parts = and_parts (nat_lt (before + 1) value.window) (nat_le value.window (before + count)) later in
    (ltb-true (before + 1) value.window parts.0, leb-true value.window (before + count) parts.1)

later_from : (before count : ℕ) (value : StartValue) → before + 1 < value.window → value.window ≤ before + count → is_later before count value ≡ true
later_from before count value low high =
    and_from (nat_lt (before + 1) value.window) (nat_le value.window (before + count)) (lt-ltb (before + 1) value.window low) (le-leb value.window (before + count) high)

abbrev later_values : ℕ → ℕ → List StartValue → List StartValue
later_values before count given = map (moved before) (filter (is_later before count) given)

-- none of them is given for the first two
none_early : (before count window : ℕ) (given : List StartValue) → window ≤ 2 → filter (λ value. value.window == window) (later_values before count given) ≡ []
none_early before count window [] early = refl
none_early before count window (value ∷ given) early =
    elim (cases_Bool (is_later before count value)) [
      | inl later ↦
          let bounds = later_bounds before count value later in
          let low : before + 1 < value.window = bounds.0 in
          rw (later, ne_eqb (value.window - before + 1) window (λ same. absurd (omega (arith, same, low, early)))) (none_early before count window given early)
      | inr fails ↦ rw fails (none_early before count window given early)
    ]

-- and those that are given for a later one are those that the whole gives for the window for which it stands
later_given : (before count window own : ℕ) (given : List StartValue) (values : List (List ℕ × ℤ)) → before + 1 < own → own ≤ before + count → window + before ≡ own + 1
    → given_all values (filter (λ value. value.window == window) (later_values before count given)) ≡ given_all values (filter (λ value. value.window == own) given)
later_given before count window own [] values low high is = refl
later_given before count window own (value ∷ given) values low high is =
    elim (cases_Bool (value.window == own)) [
      | inl here ↦
          let same : value.window ≡ own = eqb-true value.window own here in
          let later = later_from before count value (omega (arith, low, same)) (omega (arith, high, same)) in
          let there : (value.window - before + 1 == window) ≡ true = eq-eqb (value.window - before + 1) window (omega (arith, low, same, is)) in
          rw (here, later, there) (later_given before count window own given (with_entry (slice_cmp nat_cmp) values value.variable value.value) low high is)
      | inr elsewhere ↦ elim (cases_Bool (is_later before count value)) [
        | inl later ↦
            let bounds = later_bounds before count value later in
            let above : before + 1 < value.window = bounds.0 in
            let apart : value.window ≡ own → ⊥ = λ same. (let test = eq-eqb value.window own same in cc) in
            rw (elsewhere, later, ne_eqb (value.window - before + 1) window (λ same. apart (omega (arith, same, above, is))))
            (later_given before count window own given values low high is)
        | inr fails ↦ rw (elsewhere, fails) (later_given before count window own given values low high is)
      ]
    ]

given_as_entries : (values more : List (List ℕ × ℤ)) → given_all values (map first_value more) ≡ with_entries (slice_cmp nat_cmp) values more
given_as_entries values [] = refl
given_as_entries values (value ∷ more) = given_as_entries (with_entry (slice_cmp nat_cmp) values value.0 value.1) more

-- what is given for a window behind the stage
cut_given : (before more window : ℕ) (given : List StartValue)
    → filter (λ value. value.window == window) (cut_values before (suc more) given)
    ≡ filter (λ value. value.window == window) (map first_value (values_at given (before + 1))) ++ filter (λ value. value.window == window) (later_values before (suc more) given)
cut_given before more window given =
    filter-append (λ value. value.window == window) (map first_value (values_at given (before + 1))) (later_values before (suc more) given)

no_values_first : (before more : ℕ) (given : List StartValue) → values_at (cut_values before (suc more) given) 1 ≡ []
no_values_first before more given =
    ap (given_all [])
    (cut_given before more 1 given
    ∙ ap (λ early. early ++ filter (λ value. value.window == 1) (later_values before (suc more) given))
    (firsts_elsewhere 1 (values_at given (before + 1)) (λ same. absurd (omega (arith, same))))
    ∙ none_early before (suc more) 1 given (omega arith))

values_second : (before more : ℕ) (given : List StartValue) → values_at (cut_values before (suc more) given) 2 ≡ values_at given (before + 1)
values_second before more given =
    ap (λ values. given_all values (filter (λ value. value.window == 2) (cut_values before (suc more) given))) (no_values_first before more given)
    ∙ ap (given_all [])
    (cut_given before more 2 given
    ∙ ap (λ early. early ++ filter (λ value. value.window == 2) (later_values before (suc more) given)) (firsts_there (values_at given (before + 1)))
    ∙ ap (λ late. map first_value (values_at given (before + 1)) ++ late) (none_early before (suc more) 2 given (omega arith))
    ∙ append-nil (map first_value (values_at given (before + 1))))
    ∙ given_as_entries [] (values_at given (before + 1))
    ∙ put_all_in_order nat_list_cmp_total (values_at given (before + 1)) (values_rise given (before + 1))

-- a window behind the stage begins with the values of the window that it stands for
pub values_kept : (before more j : ℕ) (given : List StartValue) → j ≤ more → values_at (cut_values before (suc more) given) (suc (suc j)) ≡ values_at given (suc (before + j))
values_kept before more zero given within =
    let place : before + 1 ≡ suc (before + 0) = omega arith in
    values_second before more given ∙ ap (values_at given) place
values_kept before more (suc j) given within =
    let place : suc (before + j) ≡ before + suc j = omega arith in
    let own : ℕ = suc (before + suc j) in
    ap (λ values. given_all values (filter (λ value. value.window == suc (suc (suc j))) (cut_values before (suc more) given)))
    (values_kept before more j given (omega (arith, within)) ∙ ap (values_at given) place)
    ∙ ap (given_all (values_at given (before + suc j)))
    (cut_given before more (suc (suc (suc j))) given
    ∙ ap (λ early. early ++ filter (λ value. value.window == suc (suc (suc j))) (later_values before (suc more) given))
    (firsts_elsewhere (suc (suc (suc j))) (values_at given (before + 1)) (λ same. absurd (omega (arith, same)))))
    ∙ later_given before (suc more) (suc (suc (suc j))) own given (values_at given (before + suc j)) (omega (arith, within)) (omega (arith, within)) (omega arith)

-- each value is given for one of the windows
pub values_inside : (before count : ℕ) (given : List StartValue) → All (IsInside (count + 1)) (map place_of (cut_values before count given))
values_inside before zero given = All-from_recursion (IsInside 1) [] tt
values_inside before (suc more) given =
    All-from_recursion (IsInside (suc more + 1)) (map place_of (cut_values before (suc more) given))
    (recursion_map (IsInside (suc more + 1)) place_of (cut_values before (suc more) given)
    (λ value i. recursion_at (λ v. IsInside (suc more + 1) (place_of v)) (cut_values before (suc more) given) value all i))
  where
    first_inside : (value : List ℕ × ℤ) → IsInside (suc more + 1) (place_of (first_value value))
    first_inside value = (omega arith, omega arith)

    later_inside : (value : StartValue) → is_later before (suc more) value ≡ true → IsInside (suc more + 1) (place_of (moved before value))
    later_inside value later =
        let bounds = later_bounds before (suc more) value later in
        let low : before + 1 < value.window = bounds.0 in
        let high : value.window ≤ before + suc more = bounds.1 in
        (omega arith, omega (arith, low, high))

    all : AllByRecursion (λ v. IsInside (suc more + 1) (place_of v)) (cut_values before (suc more) given)
    all =
        recursion_append (λ v. IsInside (suc more + 1) (place_of v)) (map first_value (values_at given (before + 1))) (later_values before (suc more) given)
        (recursion_map (λ v. IsInside (suc more + 1) (place_of v)) first_value (values_at given (before + 1)) (λ value i. first_inside value))
        (recursion_map (λ v. IsInside (suc more + 1) (place_of v)) (moved before) (filter (is_later before (suc more)) given)
        (λ value i. later_inside value (contains_from_filter (is_later before (suc more)) given value i).1))

-- one value stands before another
abbrev Precedes : StartValue → StartValue → Type 0
Precedes one other = place_cmp (place_of one) (place_of other) ≡ Less

-- sorted by what the elements are mapped to
sorted_from_pairs : {X K : Type 0} (R : K → K → Ordering) (f : X → K) (xs : List X) → Pairwise (λ a b. R (f a) (f b) ≡ Less) xs → IsStrictlySortedBy R (map f xs)
unfolding IsStrictlySortedBy
sorted_from_pairs R f [] pairs = tt
sorted_from_pairs R f (x ∷ xs) pairs = (
  recursion_map (λ k. R (f x) k ≡ Less) f xs (λ y i. recursion_at (λ y. R (f x) (f y) ≡ Less) xs y pairs.0 i),
  sorted_from_pairs R f xs pairs.1,
)

each_below : {X K : Type 0} (R : K → K → Ordering) (f : X → K) (k : K) (xs : List X) → AllByRecursion (λ other. R k other ≡ Less) (map f xs)
    → AllByRecursion (λ x. R k (f x) ≡ Less) xs
each_below R f k [] all = tt
each_below R f k (x ∷ xs) all = (all.0, each_below R f k xs all.1)

pairs_from_sorted : {X K : Type 0} (R : K → K → Ordering) (f : X → K) (xs : List X) → IsStrictlySortedBy R (map f xs) → Pairwise (λ a b. R (f a) (f b) ≡ Less) xs
unfolding IsStrictlySortedBy
pairs_from_sorted R f [] sorted = tt
pairs_from_sorted R f (x ∷ xs) sorted = (each_below R f (f x) xs sorted.0, pairs_from_sorted R f xs sorted.1)

moved_order : (before one other : ℕ) → before < one → before < other → nat_cmp (one - before + 1) (other - before + 1) ≡ nat_cmp one other
moved_order before one other low least = grind (arith, nat_tests)

-- the values stand in the order of their places
pub values_ordered : (before count : ℕ) (given : List StartValue) → IsStrictlySortedBy place_cmp (map place_of given) → IsStrictlySortedBy place_cmp (map place_of (cut_values before count given))
unfolding IsStrictlySortedBy
values_ordered before zero given sorted = tt
values_ordered before (suc more) given sorted =
    sorted_from_pairs place_cmp place_of (cut_values before (suc more) given)
    (pairwise_append Precedes (map first_value (values_at given (before + 1))) (later_values before (suc more) given) firsts laters across)
  where
    above : (value : StartValue) → Contains (filter (is_later before (suc more)) given) value → before + 1 < value.window
    above value i = (later_bounds before (suc more) value (contains_from_filter (is_later before (suc more)) given value i).1).0

    firsts : Pairwise Precedes (map first_value (values_at given (before + 1)))
    firsts =
        pairwise_map (λ one other. slice_cmp nat_cmp one.0 other.0 ≡ Less) Precedes first_value (values_at given (before + 1))
        (pairs_from_sorted (slice_cmp nat_cmp) (λ value. value.0) (values_at given (before + 1)) (values_rise given (before + 1))) (λ one other i j less. less)

    laters : Pairwise Precedes (later_values before (suc more) given)
    laters =
        pairwise_map Precedes Precedes (moved before) (filter (is_later before (suc more)) given)
        (pairwise_filter Precedes (is_later before (suc more)) given (pairs_from_sorted place_cmp place_of given sorted)) (λ one other i j less.
        let low = above one i in
        let least = above other j in
        ap (λ order. ordering_then order (slice_cmp nat_cmp one.variable other.variable)) (moved_order before one.window other.window (omega (arith, low)) (omega (arith, least))) ∙ less)

    across : (one other : StartValue) → Contains (map first_value (values_at given (before + 1))) one → Contains (later_values before (suc more) given) other → Precedes one other
    across one other i j =
        let value = contains_from_map first_value (values_at given (before + 1)) one i in
        let later = contains_from_map (moved before) (filter (is_later before (suc more)) given) other j in
        let low = above later.0 later.1 in
        let less : nat_cmp 2 (later.0.window - before + 1) ≡ Less = rw (lt-ltb 2 (later.0.window - before + 1) (omega (arith, low))) refl in
        subst (λ v. Precedes v other) value.2 (subst (λ v. Precedes (first_value value.0) v) later.2
        (ap (λ order. ordering_then order (slice_cmp nat_cmp value.0.0 later.0.variable)) less))
