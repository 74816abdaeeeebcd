-- Laws of filters: over joined lists, over lists that begin with each of some elements, and what they keep.
use Rattle.std.specs.Prelude.{ℕ, zero, suc, ◌+◌, ◌<◌, ◌≡◌, Bool, true, false, ◌&&◌, cond, List, [], ◌∷◌, ◌++◌, Contains, length, filter, map, flat_map, drop, get_or}
use Rattle.std.specs.List.{AllByRecursion}
use Rattle.std.proofs.Common.{inl, inr, refl, ap, sym, subst, ◌∙◌, arith}
use Rattle.std.proofs.lemmas.Bool.{cases_Bool}
use Rattle.std.proofs.lemmas.List.Elements.{filter-append, filter_agree}
use Rattle.gp_base.specs.ListLaws.{first_or_rest, here, nothing_in, Pairwise, there}

-- one filter after another
pub filter-filter : {X : Type 0} (p q : X → Bool) (xs : List X) → filter q (filter p xs) ≡ filter (λ x. p x && q x) xs
filter-filter p q [] = refl
filter-filter p q (x ∷ xs) =
    elim (p x) as (λ v. filter q (cond v (x ∷ filter p xs) (filter p xs)) ≡ cond (v && q x) (x ∷ filter (λ y. p y && q y) xs) (filter (λ y. p y && q y) xs)) [
      | true ↦ ap (λ rest. cond (q x) (x ∷ rest) rest) (filter-filter p q xs)
      | false ↦ filter-filter p q xs
    ]

-- a filter that keeps nothing
pub filter_none : {X : Type 0} (xs : List X) → filter (λ x. false) xs ≡ []
filter_none [] = refl
filter_none (x ∷ xs) = filter_none xs

-- a filter of joined lists
pub filter-flat_map : {X Y : Type 0} (p : Y → Bool) (f : X → List Y) (xs : List X) → filter p (flat_map f xs) ≡ flat_map (λ x. filter p (f x)) xs
filter-flat_map p f [] = refl
filter-flat_map p f (x ∷ xs) =
    filter-append p (f x) (flat_map f xs) ∙ ap (λ rest. filter p (f x) ++ rest) (filter-flat_map p f xs)

-- a filter of what the elements are mapped to
pub filter-map : {X Y : Type 0} (p : Y → Bool) (f : X → Y) (xs : List X) → filter p (map f xs) ≡ map f (filter (λ x. p (f x)) xs)
filter-map p f [] = refl
filter-map p f (x ∷ xs) =
    elim (p (f x)) as (λ v. cond v (f x ∷ filter p (map f xs)) (filter p (map f xs)) ≡ map f (cond v (x ∷ filter (λ y. p (f y)) xs) (filter (λ y. p (f y)) xs))) [
      | true ↦ ap (λ rest. f x ∷ rest) (filter-map p f xs)
      | false ↦ filter-map p f xs
    ]

-- the lists of those elements that a filter keeps, joined
pub flat_map-filter : {X Y : Type 0} (f : X → List Y) (p : X → Bool) (xs : List X) → flat_map f (filter p xs) ≡ flat_map (λ x. cond (p x) (f x) []) xs
flat_map-filter f p [] = refl
flat_map-filter f p (x ∷ xs) =
    elim (p x) as (λ v. flat_map f (cond v (x ∷ filter p xs) (filter p xs)) ≡ cond v (f x) [] ++ flat_map (λ y. cond (p y) (f y) []) xs) [
      | true ↦ ap (λ rest. f x ++ rest) (flat_map-filter f p xs)
      | false ↦ flat_map-filter f p xs
    ]

-- two functions that agree at each element
pub flat_map_agree : {X Y : Type 0} (f g : X → List Y) → ((x : X) → f x ≡ g x) → (xs : List X) → flat_map f xs ≡ flat_map g xs
flat_map_agree f g same [] = refl
flat_map_agree f g same (x ∷ xs) = ap (λ first. first ++ flat_map f xs) (same x) ∙ ap (λ rest. g x ++ rest) (flat_map_agree f g same xs)

pub map_agree : {X Y : Type 0} (f g : X → Y) → ((x : X) → f x ≡ g x) → (xs : List X) → map f xs ≡ map g xs
map_agree f g same [] = refl
map_agree f g same (x ∷ xs) = ap (λ first. first ∷ map f xs) (same x) ∙ ap (λ rest. g x ∷ rest) (map_agree f g same xs)

-- joined lists from one place on
pub flat_map_at : {X Y : Type 0} (f : X → List Y) (xs : List X) (k next : ℕ) (d : X) → next ≡ k + 1 → k < length xs → flat_map f (drop k xs) ≡ f (get_or xs k d) ++ flat_map f (drop next xs)
flat_map_at f [] k next d is within = absurd (omega arith)
flat_map_at f (x ∷ xs) k zero d is within = absurd (omega arith)
flat_map_at f (x ∷ xs) zero (suc next) d is within =
    let start : 0 ≡ next = omega arith in
    ap (λ n. f x ++ flat_map f (drop n xs)) start
flat_map_at f (x ∷ xs) (suc k) (suc next) d is within = flat_map_at f xs k next d (omega arith) (omega arith)

-- a filter whose test begins with one of the first element
begun_where : {X : Type 0} (b : Bool) (test : List X → Bool) (x : X) (lists : List (List X))
    → map (λ rest. x ∷ rest) (filter (λ rest. b && test rest) lists) ≡ cond b (map (λ rest. x ∷ rest) (filter test lists)) []
begun_where true test x lists = refl
begun_where false test x lists = ap (map (λ rest. x ∷ rest)) (filter_none lists)

-- lists with each of these elements before them: those pass whose first element passes, and whose rest passes the test that this element sets it
pub filter_begun : {X : Type 0} (test : List X → Bool) (p : X → Bool) (q : X → List X → Bool) (xs : List X) (lists : List (List X))
    → ((x : X) (rest : List X) → test (x ∷ rest) ≡ (p x && q x rest))
    → filter test (flat_map (λ x. map (λ rest. x ∷ rest) lists) xs) ≡ flat_map (λ x. map (λ rest. x ∷ rest) (filter (q x) lists)) (filter p xs)
filter_begun test p q xs lists is =
    filter-flat_map test (λ x. map (λ rest. x ∷ rest) lists) xs
    ∙ flat_map_agree (λ x. filter test (map (λ rest. x ∷ rest) lists)) (λ x. cond (p x) (map (λ rest. x ∷ rest) (filter (q x) lists)) []) (λ x.
    filter-map test (λ rest. x ∷ rest) lists
    ∙ ap (map (λ rest. x ∷ rest)) (filter_agree (λ rest. test (x ∷ rest)) (λ rest. p x && q x rest) (is x) lists)
    ∙ begun_where (p x) (q x) x lists) xs
    ∙ sym (flat_map-filter (λ x. map (λ rest. x ∷ rest) (filter (q x) lists)) p xs)

-- what passes stands in what a filter keeps, and what stands there passes
pub contains_filter : {X : Type 0} (p : X → Bool) (xs : List X) (x : X) → Contains xs x → p x ≡ true → Contains (filter p xs) x
contains_filter p [] x i passes = absurd (nothing_in x i)
contains_filter p (first ∷ xs) x i passes =
    elim (first_or_rest first xs x i) [
      | inl same ↦ rw (ap p same ∙ passes) (subst (Contains (first ∷ filter p xs)) same (here first (filter p xs)))
      | inr more ↦ elim (cases_Bool (p first)) [
        | inl own ↦ rw own (there first (filter p xs) x (contains_filter p xs x more passes))
        | inr fails ↦ rw fails (contains_filter p xs x more passes)
      ]
    ]

pub contains_from_filter : {X : Type 0} (p : X → Bool) (xs : List X) (x : X) → Contains (filter p xs) x → Contains xs x × (p x ≡ true)
contains_from_filter p [] x i = absurd (nothing_in x i)
contains_from_filter p (first ∷ xs) x i =
    elim (cases_Bool (p first)) [
      | inl own ↦ elim (first_or_rest first (filter p xs) x (rw own at i)) [
        | inl same ↦ (subst (Contains (first ∷ xs)) same (here first xs), subst (λ y. p y ≡ true) same own)
        | inr more ↦ let rest = contains_from_filter p xs x more in (there first xs x rest.0, rest.1)
      ]
      | inr fails ↦ let rest = contains_from_filter p xs x (rw fails at i) in (there first xs x rest.0, rest.1)
    ]

-- what each element keeps, and what each two keep, those that a filter keeps do
pub recursion_filter : {X : Type 0} (P : X → Type 0) (p : X → Bool) (xs : List X) → AllByRecursion P xs → AllByRecursion P (filter p xs)
recursion_filter P p [] h = tt
recursion_filter P p (x ∷ xs) h =
    elim (p x) as (λ v. AllByRecursion P (cond v (x ∷ filter p xs) (filter p xs))) [ true ↦ (h.0, recursion_filter P p xs h.1) | false ↦ recursion_filter P p xs h.1 ]

pub pairwise_filter : {X : Type 0} (R : X → X → Type 0) (p : X → Bool) (xs : List X) → Pairwise R xs → Pairwise R (filter p xs)
pairwise_filter R p [] pairs = tt
pairwise_filter R p (x ∷ xs) pairs =
    elim (p x) as (λ v. Pairwise R (cond v (x ∷ filter p xs) (filter p xs))) [ true ↦ (recursion_filter (R x) p xs pairs.0, pairwise_filter R p xs pairs.1) | false ↦ pairwise_filter R p xs pairs.1 ]
