-- Laws: how often a list has a number, and lists whose numbers rise.
use Rattle.std.proofs.Common.{◌≡◌, ◌≢◌, ℕ, ◌+◌, ◌<◌, ◌≤◌, Bool, true, false, cond, nat_lt, ◌==◌, List, [], ◌∷◌, length, get_or, take, All, Contains, sum_by, count_by, MatchBool, IsPermutation, inl, inr, arith, zero, suc, refl, sym, ap, ◌∙◌, add-one}
use native.Mathlib.Numerals.{unary_clauses}
use Rattle.std.proofs.lemmas.Bool.{cases_Bool, eqb-true}
use Rattle.std.specs.List.{AllAdjacentBelow, IsAllAdjacentAnswer}
use Rattle.std.specs.List.Sorted.{IsNonDecreasingBy}
use Rattle.std.proofs.lemmas.List.{get_or-take, length-take}
use Rattle.std.proofs.lemmas.List.Sums.{sum_by-cons, sum_by-take-drop, sum_by-drop_more, get_or-le-sum_by, sum_by-le}
use Rattle.std.proofs.lemmas.List.Sorted.{sum_by-IsPermutation}
use Rattle.std.proofs.lemmas.Bool.Decides.{nat_tests}
use Rattle.gp_base.specs.ListLaws.{first_or_rest, here, nothing_in, there}
use Rattle.gp_base.specs.SumLaws.{count_cons}

-- how often an element counts for a number
abbrev counted : {X : Type 0} → (X → ℕ) → ℕ → X → ℕ
counted f n x = cond (f x == n) 1 0

counted_one : (m n : ℕ) → m ≡ n → ◌≡◌ {A = ℕ} (cond (m == n) 1 0) 1
counted_one m n is = grind (arith, nat_tests)

counted_zero : (m n : ℕ) → n < m → cond (m == n) 1 0 ≤ 0
counted_zero m n above = grind (arith, nat_tests)

counted_few : (m n : ℕ) → cond (m == n) 1 0 ≤ 1
counted_few m n = grind (arith, nat_tests)

-- what stands at two places counts twice
pub twice_from_places : {X : Type 0} (f : X → ℕ) (xs : List X) (i j : ℕ) (d : X) → i < j → j < length xs → f (get_or xs i d) ≡ f (get_or xs j d)
    → 2 ≤ count_by (λ x. f x == f (get_or xs j d)) xs
twice_from_places f xs i j d before within same =
    let n : ℕ = f (get_or xs j d) in
    let inside : i < length (take j xs) = omega (arith, length-take j xs) in
    let first : counted f n (get_or (take j xs) i d) ≤ sum_by (counted f n) (take j xs) = get_or-le-sum_by (counted f n) (take j xs) i d inside in
    let at_first : counted f n (get_or (take j xs) i d) ≡ 1 = rw (get_or-take j xs i d before) (counted_one (f (get_or xs i d)) n same) in
    let at_second : counted f n (get_or xs j d) ≡ 1 = counted_one n n refl in
    omega (arith, first, at_first, at_second, sum_by-drop_more (counted f n) xs j d within, sum_by-take-drop (counted f n) xs j)

-- an element that passes counts one
passing_one : {X : Type 0} (test : X → Bool) (x y : X) → x ≡ y → test y ≡ true → ◌≡◌ {A = ℕ} (cond (test x) 1 0) 1
passing_one test x y same passes = ap (λ z. cond {A = ℕ} (test z) 1 0) same ∙ ap (λ b. cond {A = ℕ} b 1 0) passes

-- what stands in a list and passes a test counts
pub count_one : {X : Type 0} (test : X → Bool) (xs : List X) (x : X) → Contains xs x → test x ≡ true → 1 ≤ count_by test xs
count_one test xs x (k, within, is) passes =
    omega (arith, passing_one test (get_or xs k x) x is passes, get_or-le-sum_by (λ y. cond (test y) 1 0) xs k x within)

-- and two that differ count twice
pub count_two : {X : Type 0} (test : X → Bool) (xs : List X) (x y : X) → x ≢ y → Contains xs x → Contains xs y → test x ≡ true → test y ≡ true → 2 ≤ count_by test xs
count_two test [] x y apart i j passes too = absurd (nothing_in x i)
count_two test (first ∷ xs) x y apart i j passes too =
    let all = count_cons test first xs in
    elim (first_or_rest first xs x i) [
      | inl same ↦ elim (first_or_rest first xs y j) [
        | inl other ↦ absurd (apart (sym same ∙ other))
        | inr later ↦ omega (arith, all, passing_one test first x same passes, count_one test xs y later too)
      ]
      | inr later ↦ elim (first_or_rest first xs y j) [
        | inl other ↦ omega (arith, all, passing_one test first y other too, count_one test xs x later passes)
        | inr last ↦ omega (arith, all, count_two test xs x y apart later last passes too)
      ]
    ]

-- where no element passes, none counts
pub count_none : {X : Type 0} (test : X → Bool) (xs : List X) → ((x : X) → Contains xs x → test x ≡ false) → count_by test xs ≡ 0
count_none test [] fails = refl
count_none test (x ∷ xs) fails =
    let none : ◌≡◌ {A = ℕ} (cond (test x) 1 0) 0 = ap (λ b. cond {A = ℕ} b 1 0) (fails x (here x xs)) in
    omega (arith, count_cons test x xs, none, count_none test xs (λ y i. fails y (there x xs y i)))

-- where each element passes, all count
pub count_all : {X : Type 0} (test : X → Bool) (xs : List X) → ((x : X) → Contains xs x → test x ≡ true) → count_by test xs ≡ length xs
count_all test [] passes = refl
count_all test (x ∷ xs) passes =
    omega (arith, count_cons test x xs, passing_one test x x refl (passes x (here x xs)), count_all test xs (λ y i. passes y (there x xs y i)))

-- where something counts, an element passes
pub count_passes : {X : Type 0} (test : X → Bool) (xs : List X) → 1 ≤ count_by test xs → (x : X) × Contains xs x × (test x ≡ true)
count_passes test [] some = absurd (omega arith)
count_passes test (x ∷ xs) some = elim (cases_Bool (test x)) [
  | inl passes ↦ (x, here x xs, passes)
  | inr fails ↦
      let none : ◌≡◌ {A = ℕ} (cond (test x) 1 0) 0 = ap (λ b. cond {A = ℕ} b 1 0) fails in
      let rest = count_passes test xs (omega (arith, some, count_cons test x xs, none)) in
      (rest.0, there x xs rest.0 rest.1, rest.2)
]

-- a permutation has what passes a test as often
pub count_permuted : {X : Type 0} (test : X → Bool) (xs others : List X) → IsPermutation xs others → count_by test others ≡ count_by test xs
count_permuted test xs others moved = sum_by-IsPermutation (λ x. cond (test x) 1 0) xs others moved

-- a list whose numbers rise goes on so
pub rising_rest : {X : Type 0} (f : X → ℕ) (x : X) (xs : List X) → AllAdjacentBelow (λ a b. f a < f b) (x ∷ xs) (length (x ∷ xs))
    → AllAdjacentBelow (λ a b. f a < f b) xs (length xs)
rising_rest f x xs rising = λ k d within.
    let next : suc k + 1 < length (x ∷ xs) = omega arith in
    rw add-one (simp unary_clauses at (rising (suc k) d next))

-- above the first number stand the others
above_first : {X : Type 0} (f : X → ℕ) (x : X) (xs : List X) (k : ℕ) (d : X) → AllAdjacentBelow (λ a b. f a < f b) (x ∷ xs) (length (x ∷ xs)) → k < length xs → f x < f (get_or xs k d)
above_first f x xs zero d rising within = rising 0 d (omega arith)
above_first f x xs (suc k) d rising within =
    let before : f x < f (get_or xs k d) = above_first f x xs k d rising (omega arith) in
    let step : f (get_or xs k d) < f (get_or xs (k + 1) d) = rising_rest f x xs rising k d (omega arith) in
    let joined : f x < f (get_or xs (k + 1) d) = omega (arith, before, step) in
    simp unary_clauses at joined

-- where numbers rise, each counts once at most
pub once_from_rising : {X : Type 0} (f : X → ℕ) (n : ℕ) (xs : List X) → AllAdjacentBelow (λ a b. f a < f b) xs (length xs) → count_by (λ x. f x == n) xs ≤ 1
once_from_rising f n [] rising = omega arith
once_from_rising {X} f n (x ∷ xs) rising =
    at (f x == n) refl (once_from_rising f n xs (rising_rest f x xs rising))
  where
    none_after : f x ≡ n → sum_by (counted f n) xs ≤ 0
    none_after is =
        let zeros : All (λ other. counted f n other ≤ 0) xs = λ k d within.
        counted_zero (f (get_or xs k d)) n (let above : f x < f (get_or xs k d) = above_first f x xs k d rising within in omega (arith, above, is)) in
        omega (arith, sum_by-le (counted f n) 0 xs zeros)

    at : (b : Bool) → (f x == n) ≡ b → sum_by (counted f n) xs ≤ 1 → count_by (λ y. f y == n) (x ∷ xs) ≤ 1
    at true is rest = omega (arith, sum_by-cons (counted f n) x xs, none_after (eqb-true _ _ is), counted_few (f x) n)
    at false is rest =
        let none : counted f n x ≡ 0 = rw is refl in
        omega (arith, sum_by-cons (counted f n) x xs, rest, none)

-- whether each number is less than the next, from the tests of neighbours
pub rises_from_tests : {X : Type 0} (f : X → ℕ) (xs : List X) (answer : Bool) → IsAllAdjacentAnswer {X = X} (λ a b test. test ≡ nat_lt (f a) (f b)) xs answer
    → IsAllAdjacentAnswer {X = X} (λ a b rises. MatchBool rises (f a < f b) (f b ≤ f a)) xs answer
rises_from_tests f xs true tests = λ k d within. below _ _ (tests k d within)
  where
    below : (m n : ℕ) → true ≡ nat_lt m n → m < n
    below m n is = grind (arith, nat_tests)
rises_from_tests f xs false tests = (tests.0, tests.1, λ d. above _ _ (tests.2 d))
  where
    above : (m n : ℕ) → false ≡ nat_lt m n → n ≤ m
    above m n is = grind (arith, nat_tests)

-- a sorted permutation whose numbers do not rise has one of them twice
pub twice_from_sorted : {X : Type 0} (f : X → ℕ) (xs sorted : List X) → IsPermutation xs sorted → IsNonDecreasingBy f sorted
    → (k : ℕ) → k + 1 < length sorted → ((d : X) → f (get_or sorted (k + 1) d) ≤ f (get_or sorted k d)) → (n : ℕ) × (2 ≤ count_by (λ x. f x == n) xs)
twice_from_sorted f xs [] moved ordered k within falls = absurd (omega (arith, within))
twice_from_sorted {X} f xs (d ∷ others) moved ordered k within falls =
    let sorted : List X = d ∷ others in
    let n : ℕ = f (get_or sorted (k + 1) d) in
    let same : f (get_or sorted k d) ≡ f (get_or sorted (k + 1) d) = omega (arith, falls d, ordered k (k + 1) d (omega arith) within) in
    let twice : 2 ≤ count_by (λ x. f x == n) sorted = twice_from_places f sorted k (k + 1) d (omega arith) within same in
    (n, omega (arith, twice, count_permuted (λ x. f x == n) xs sorted moved))
