-- Of each list exactly one other has the same elements in a given order, each once.
use Rattle.std.proofs.Common.{◌≡◌, ◌⊎◌, suc, List, [], ◌∷◌, Contains, inl, inr, refl, ap, sym, subst, ◌∙◌, arith}
use Rattle.std.specs.List.{AllPairs}
use Rattle.std.proofs.lemmas.List.Elements.{All-nil, All-cons, All-contains}
use Rattle.std.proofs.lemmas.List.Kept.{AllPairs-cons}
use Rattle.gp_base.specs.ListLaws.{first_or_rest, here, nothing_in, there, all_from_contains}

-- of two elements one comes first, or they are one
abbrev pub Compares : {X : Type 0} → (X → X → Type 0) → Type 0
Compares {X} R = (x y : X) → R x y ⊎ ((x ≡ y) ⊎ R y x)

-- what comes before something comes before all after it
abbrev pub GoesThrough : {X : Type 0} → (X → X → Type 0) → Type 0
GoesThrough {X} R = (x y z : X) → R x y → R y z → R x z

-- nothing comes before itself
abbrev pub IsNeverItself : {X : Type 0} → (X → X → Type 0) → Type 0
IsNeverItself {X} R = (x : X) → R x x → ⊥

-- a list in order with the elements of another
pub record IsInOrder {X : Type 0} (R : X → X → Type 0) (xs zs : List X) : Type 0 where
  pub sorted : AllPairs R zs
  pub only : (x : X) → Contains zs x → Contains xs x
  pub all : (x : X) → Contains xs x → Contains zs x

-- the first comes before all others, which are in order
after_first : {X : Type 0} (R : X → X → Type 0) (x : X) (xs : List X) (y : X) → AllPairs R (x ∷ xs) → Contains xs y → R x y
after_first R x xs y sorted i =
    All-contains (R x) xs y (λ k d within. sorted 0 (suc k) d (omega arith) (omega arith)) i

rest_sorted : {X : Type 0} (R : X → X → Type 0) (x : X) (xs : List X) → AllPairs R (x ∷ xs) → AllPairs R xs
rest_sorted R x xs sorted = λ i j d less within. sorted (suc i) (suc j) d (omega arith) (omega arith)

-- an element put into a list that is in order
put : {X : Type 0} (R : X → X → Type 0) → Compares R → GoesThrough R → (x : X) (ys : List X) → AllPairs R ys → (zs : List X) × IsInOrder R (x ∷ ys) zs
put R compares through x [] sorted =
    (x ∷ [], record { sorted = AllPairs-cons R x [] (All-nil (R x)) sorted; only = λ z i. i; all = λ z i. i })
put R compares through x (y ∷ ys) sorted =
    elim (compares x y) [
      | inl first ↦ (
        x ∷ y ∷ ys,
        record {
          sorted = AllPairs-cons R x (y ∷ ys)
              (All-cons (R x) y ys first (all_from_contains (R x) ys (λ z i. through x y z first (after_first R y ys z sorted i)))) sorted;
          only = λ z i. i;
          all = λ z i. i;
        },
      )
      | inr (inl same) ↦ (
        y ∷ ys,
        record {
          sorted = sorted;
          only = λ z i. there x (y ∷ ys) z i;
          all = λ z i. elim (first_or_rest x (y ∷ ys) z i) [
            | inl is ↦ subst (Contains (y ∷ ys)) (sym same ∙ is) (here y ys)
            | inr old ↦ old
          ];
        },
      )
      | inr (inr later) ↦
          let rest = put R compares through x ys (rest_sorted R y ys sorted) in (
            y ∷ rest.0,
            record {
              sorted = AllPairs-cons R y rest.0
                  (all_from_contains (R y) rest.0 (λ z i. elim (first_or_rest x ys z (rest.1.only z i)) [
                    | inl is ↦ subst (R y) is later
                    | inr old ↦ after_first R y ys z sorted old
                  ])) rest.1.sorted;
              only = λ z i. elim (first_or_rest y rest.0 z i) [
                | inl is ↦ there x (y ∷ ys) z (subst (Contains (y ∷ ys)) is (here y ys))
                | inr more ↦ elim (first_or_rest x ys z (rest.1.only z more)) [
                  | inl is ↦ subst (Contains (x ∷ y ∷ ys)) is (here x (y ∷ ys))
                  | inr old ↦ there x (y ∷ ys) z (there y ys z old)
                ]
              ];
              all = λ z i. elim (first_or_rest x (y ∷ ys) z i) [
                | inl is ↦ there y rest.0 z (rest.1.all z (subst (Contains (x ∷ ys)) is (here x ys)))
                | inr more ↦ elim (first_or_rest y ys z more) [
                  | inl is ↦ subst (Contains (y ∷ rest.0)) is (here y rest.0)
                  | inr old ↦ there y rest.0 z (rest.1.all z (there x ys z old))
                ]
              ];
            },
          )
    ]

-- there is one
pub in_order : {X : Type 0} (R : X → X → Type 0) → Compares R → GoesThrough R → (xs : List X) → (zs : List X) × IsInOrder R xs zs
in_order R compares through [] =
    ([], record { sorted = λ i j d less within. absurd (omega (arith, within)); only = λ z i. i; all = λ z i. i })
in_order R compares through (x ∷ xs) =
    let rest = in_order R compares through xs in
    let more = put R compares through x rest.0 rest.1.sorted in (
      more.0,
      record {
        sorted = more.1.sorted;
        only = λ z i. elim (first_or_rest x rest.0 z (more.1.only z i)) [
          | inl is ↦ subst (Contains (x ∷ xs)) is (here x xs)
          | inr old ↦ there x xs z (rest.1.only z old)
        ];
        all = λ z i. elim (first_or_rest x xs z i) [
          | inl is ↦ more.1.all z (subst (Contains (x ∷ rest.0)) is (here x rest.0))
          | inr old ↦ more.1.all z (there x rest.0 z (rest.1.all z old))
        ];
      },
    )

first_one : {X : Type 0} (R : X → X → Type 0) → GoesThrough R → IsNeverItself R → (x : X) (xs : List X) (y : X) (ys : List X) → AllPairs R (x ∷ xs) → AllPairs R (y ∷ ys)
    → Contains (y ∷ ys) x → Contains (x ∷ xs) y → x ≡ y
first_one R through never x xs y ys s t i j =
    elim (first_or_rest y ys x i) [
      | inl is ↦ sym is
      | inr later ↦ elim (first_or_rest x xs y j) [
        | inl is ↦ is
        | inr other ↦ absurd (never x (through x y x (after_first R x xs y s other) (after_first R y ys x t later)))
      ]
    ]

-- what stands in the rest of one list stands in the rest of the other
in_rest : {X : Type 0} (R : X → X → Type 0) → IsNeverItself R → (x : X) (xs : List X) (y : X) (ys : List X) → AllPairs R (x ∷ xs) → x ≡ y
    → ((z : X) → Contains (x ∷ xs) z → Contains (y ∷ ys) z) → (z : X) → Contains xs z → Contains ys z
in_rest R never x xs y ys s same among z i =
    elim (first_or_rest y ys z (among z (there x xs z i))) [
      | inl is ↦ absurd (never x (subst (R x) (sym (same ∙ is)) (after_first R x xs z s i)))
      | inr old ↦ old
    ]

-- and no other
pub same_order : {X : Type 0} (R : X → X → Type 0) → GoesThrough R → IsNeverItself R → (xs ys : List X) → AllPairs R xs → AllPairs R ys
    → ((z : X) → Contains xs z → Contains ys z) → ((z : X) → Contains ys z → Contains xs z) → xs ≡ ys
same_order R through never [] [] s t a b = refl
same_order R through never [] (y ∷ ys) s t a b = absurd (nothing_in y (b y (here y ys)))
same_order R through never (x ∷ xs) [] s t a b = absurd (nothing_in x (a x (here x xs)))
same_order R through never (x ∷ xs) (y ∷ ys) s t a b =
    let first : x ≡ y = first_one R through never x xs y ys s t (a x (here x xs)) (b y (here y ys)) in
    let rest : xs ≡ ys =
    same_order R through never xs ys (rest_sorted R x xs s) (rest_sorted R y ys t)
    (in_rest R never x xs y ys s first a) (in_rest R never y ys x xs t (sym first) b) in
    ap (λ zs. x ∷ zs) rest ∙ ap (λ z. z ∷ ys) first
