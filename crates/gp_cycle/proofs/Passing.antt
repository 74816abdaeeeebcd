-- Tests on the elements of a list: which pass, and how many.
use Rattle.std.proofs.Common.{ℕ, ◌≡◌, ◌+◌, ◌≤◌, refl, ap, sym, ◌∙◌, inl, inr, arith, Bool, true, false, cond, List, [], ◌∷◌, length}
use Rattle.std.specs.Prelude.{◌&&◌, Option, None, Some, Contains, count_by, find}
use Rattle.std.specs.List.{list_all, list_any}
use Rattle.std.proofs.lemmas.Bool.{and_parts, cases_Bool, false≢true, or_cases, or_left, or_parts, or_right}
use Rattle.std.proofs.lemmas.Option.{none-some}
use Rattle.gp_base.specs.CountLaws.{count_all}
use Rattle.gp_base.specs.ListLaws.{first_or_rest, here, nothing_in, there}
use Rattle.gp_base.specs.SumLaws.{count_cons}

pub some_passes : {X : Type 0} (test : X → Bool) (xs : List X) → list_any test xs ≡ true → (x : X) × Contains xs x × (test x ≡ true)
some_passes test [] any = absurd (false≢true any)
some_passes test (x ∷ xs) any =
    elim (or_cases (test x) (list_any test xs) any) [
      | inl own ↦ (x, here x xs, own)
      | inr more ↦ let rest = some_passes test xs more in (rest.0, there x xs rest.0 rest.1, rest.2)
    ]

pub any_passes : {X : Type 0} (test : X → Bool) (xs : List X) (x : X) → Contains xs x → test x ≡ true → list_any test xs ≡ true
any_passes test [] x i passes = absurd (nothing_in x i)
any_passes test (first ∷ xs) x i passes =
    elim (first_or_rest first xs x i) [
      | inl same ↦ or_left (test first) (list_any test xs) (ap test same ∙ passes)
      | inr more ↦ or_right (test first) (list_any test xs) (any_passes test xs x more passes)
    ]

pub any_fails : {X : Type 0} (test : X → Bool) (xs : List X) (x : X) → list_any test xs ≡ false → Contains xs x → test x ≡ false
any_fails test [] x none i = absurd (nothing_in x i)
any_fails test (first ∷ xs) x none i =
    let parts = or_parts (test first) (list_any test xs) none in
    elim (first_or_rest first xs x i) [
      | inl same ↦ ap test (sym same) ∙ parts.0
      | inr more ↦ any_fails test xs x parts.1 more
    ]

pub none_found : {X : Type 0} (test : X → Bool) (xs : List X) (x : X) → find test xs ≡ None → Contains xs x → test x ≡ false
none_found test [] x none i = absurd (nothing_in x i)
none_found {X} test (first ∷ xs) x none i = at (test first) refl (none_found test xs x)
  where
    at : (b : Bool) → test first ≡ b → (find test xs ≡ None → Contains xs x → test x ≡ false) → test x ≡ false
    at true passes rest = absurd (none-some first (sym none ∙ ap (λ (b : Bool). cond {A = Option X} b (Some first) (find test xs)) passes))
    at false fails rest = elim (first_or_rest first xs x i) [
      | inl same ↦ ap test (sym same) ∙ fails
      | inr more ↦ rest (ap (λ (b : Bool). cond {A = Option X} b (Some first) (find test xs)) (sym fails) ∙ none) more
    ]

pub all_at : {X : Type 0} (test : X → Bool) (xs : List X) (x : X) → list_all test xs ≡ true → Contains xs x → test x ≡ true
all_at test [] x all i = absurd (nothing_in x i)
all_at test (first ∷ xs) x all i =
    let parts = and_parts (test first) (list_all test xs) all in
    elim (first_or_rest first xs x i) [
      | inl same ↦ ap test (sym same) ∙ parts.0
      | inr more ↦ all_at test xs x parts.1 more
    ]

pub all_each : {X : Type 0} (test : X → Bool) (xs : List X) → ((x : X) → Contains xs x → test x ≡ true) → list_all test xs ≡ true
all_each test [] each = refl
all_each test (x ∷ xs) each =
    ap (λ (b : Bool). b && list_all test xs) (each x (here x xs)) ∙ all_each test xs (λ y i. each y (there x xs y i))

-- what passes one test is no more than what passes another that passes where the first does
counts : (b c : Bool) → (b ≡ true → c ≡ true) → cond {A = ℕ} b 1 0 ≤ cond {A = ℕ} c 1 0
counts true c implies = let one : cond {A = ℕ} c 1 0 ≡ 1 = ap (λ (b : Bool). cond {A = ℕ} b 1 0) (implies refl) in omega (arith, one)
counts false c implies = omega arith

pub count_most : {X : Type 0} (test wider : X → Bool) (xs : List X) → ((x : X) → test x ≡ true → wider x ≡ true) → count_by test xs ≤ count_by wider xs
count_most test wider [] implies = omega arith
count_most test wider (x ∷ xs) implies =
    let first = counts (test x) (wider x) (implies x) in
    let rest = count_most test wider xs implies in
    omega (arith, first, rest, count_cons test x xs, count_cons wider x xs)

-- and less, where one passes the second alone
pub count_less : {X : Type 0} (test wider : X → Bool) (xs : List X) (x : X) → ((y : X) → test y ≡ true → wider y ≡ true) → Contains xs x → test x ≡ false → wider x ≡ true
    → count_by test xs + 1 ≤ count_by wider xs
count_less test wider [] x implies i fails passes = absurd (nothing_in x i)
count_less test wider (first ∷ xs) x implies i fails passes =
    elim (first_or_rest first xs x i) [
      | inl same ↦
          let none : cond {A = ℕ} (test first) 1 0 ≡ 0 = ap (λ (b : Bool). cond {A = ℕ} b 1 0) (ap test same ∙ fails) in
          let one : cond {A = ℕ} (wider first) 1 0 ≡ 1 = ap (λ (b : Bool). cond {A = ℕ} b 1 0) (ap wider same ∙ passes) in
          let rest = count_most test wider xs implies in
          omega (arith, none, one, rest, count_cons test first xs, count_cons wider first xs)
      | inr more ↦
          let own = counts (test first) (wider first) (implies first) in
          let rest = count_less test wider xs x implies more fails passes in
          omega (arith, own, rest, count_cons test first xs, count_cons wider first xs)
    ]

-- where as many pass as there are, each passes
pub all_count : {X : Type 0} (test : X → Bool) (xs : List X) (x : X) → length xs ≤ count_by test xs → Contains xs x → test x ≡ true
all_count test xs x all i =
    elim (cases_Bool (test x)) [
      | inl passes ↦ passes
      | inr fails ↦
          let less = count_less test (λ y. true) xs x (λ y passes. refl) i fails refl in
          let whole = count_all (λ y. true) xs (λ y j. refl) in
          absurd (omega (arith, less, whole, all))
    ]
