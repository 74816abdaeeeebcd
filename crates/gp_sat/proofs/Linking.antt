-- Slots that are taken from a list and linked into another.
use Rattle.std.proofs.Common.{◌≡◌, ◌≢◌, refl, sym, ◌∙◌, subst, ℕ, ◌+◌, List, [], ◌∷◌, ◌⊎◌, inl, inr, Contains, arith}
use Rattle.std.proofs.lemmas.Bool.{cases_eq, eq-eqb, ne_eqb}
use Rattle.gp_base.specs.ListLaws.{first_or_rest, here, nothing_in, there}
use Rattle.gp_sat.specs.Links.{IsOnce, IsChain, put, AreLinked, IsLoose}

pub put_here : {A : Type 0} (f : ℕ → A) (at : ℕ) (value : A) (k : ℕ) → k ≡ at → put f at value k ≡ value
put_here f at value k same = rw (eq-eqb k at same) refl

pub put_other : {A : Type 0} (f : ℕ → A) (at : ℕ) (value : A) (k : ℕ) → k ≢ at → put f at value k ≡ f k
put_other f at value k differ = rw (ne_eqb k at differ) refl

-- a property of each list, where one list was replaced
pub put_each : {A : Type 0} (f : ℕ → A) (at : ℕ) (value : A) (P : ℕ → A → Type 0) → P at value → ((k : ℕ) → k ≢ at → P k (f k)) → (k : ℕ) → P k (put f at value k)
put_each {A} f at value P here other k = elim (cases_eq k at) [
  | inl same ↦ subst (λ (x : A). P k x) (sym (put_here f at value k same)) (subst (λ (n : ℕ). P n value) (sym same) here)
  | inr differ ↦ subst (λ (x : A). P k x) (sym (put_other f at value k differ)) (other k differ)
]

-- a chain does not see the links of slots that it does not lead over
pub chain_same : (next new : ℕ → ℕ) (x : ℕ) (xs : List ℕ) (link : ℕ) → ((y : ℕ) → y ≢ x → new y ≡ next y) → (Contains xs x → ⊥) → IsChain next link xs → IsChain new link xs
chain_same next new x [] link same off chain = chain
chain_same next new x (y ∷ xs) link same off chain =
    let differ : y ≢ x = λ e. off (0, omega arith, e) in
    (chain.0, subst (λ (n : ℕ). IsChain new n xs) (sym (same y differ)) (chain_same next new x xs (next y) same (λ among. off (there _ _ _ among)) chain.1))

-- what is in the rest of a list is in the list
pub in_before : (lists : ℕ → List ℕ) (l x : ℕ) (xs : List ℕ) → lists l ≡ x ∷ xs → (m y : ℕ) → Contains (put lists l xs m) y → Contains (lists m) y
in_before lists l x xs is m y = put_each lists l xs (λ k ys. Contains ys y → Contains (lists k) y)
    (λ among. subst (λ (ys : List ℕ). Contains ys y) (sym is) (there _ _ _ among))
    (λ k differ among. among) m

-- the first slot of a list is taken from it
pub popped : (head new next : ℕ → ℕ) (lists : ℕ → List ℕ) (l x : ℕ) (xs : List ℕ) → AreLinked head next lists → lists l ≡ x ∷ xs
    → new l ≡ next x → ((k : ℕ) → k ≢ l → new k ≡ head k) → AreLinked new next (put lists l xs)
popped head new next lists l x xs linked is here other = record {
  chains = put_each lists l xs (λ k ys. IsChain next (new k) ys)
      (subst (λ (n : ℕ). IsChain next n xs) (sym here) (subst (λ (ys : List ℕ). IsChain next (head l) ys) is (linked.chains l)).1)
      (λ k differ. subst (λ (n : ℕ). IsChain next n (lists k)) (sym (other k differ)) (linked.chains k));
  once = put_each lists l xs (λ k ys. IsOnce ys) (subst (λ (ys : List ℕ). IsOnce ys) is (linked.once l)).1 (λ k differ. linked.once k);
  apart = λ k m y one two. linked.apart k m y (in_before lists l x xs is k y one) (in_before lists l x xs is m y two);
}

-- and then stands in no list
pub popped_loose : (head next : ℕ → ℕ) (lists : ℕ → List ℕ) (l x : ℕ) (xs : List ℕ) → AreLinked head next lists → lists l ≡ x ∷ xs → IsLoose x (put lists l xs)
popped_loose head next lists l x xs linked is = put_each lists l xs (λ k ys. Contains ys x → ⊥)
    (subst (λ (ys : List ℕ). IsOnce ys) is (linked.once l)).0
    (λ k differ among. differ (linked.apart k l x among (subst (λ (ys : List ℕ). Contains ys x) (sym is) (here _ _))))

-- what is in a list that has one more is that one or was there
pub pushed_cases : (lists : ℕ → List ℕ) (m x k y : ℕ) → Contains (put lists m (x ∷ lists m) k) y → ((k ≡ m) × (y ≡ x)) ⊎ Contains (lists k) y
pushed_cases lists m x k y among = elim (cases_eq k m) [
  | inl same ↦ elim (first_or_rest _ _ _ (let at : Contains (x ∷ lists m) y = subst (λ (ys : List ℕ). Contains ys y) (put_here lists m (x ∷ lists m) k same) among in at)) [
    | inl new ↦ inl (same, sym new)
    | inr old ↦ inr (subst (λ (n : ℕ). Contains (lists n) y) (sym same) old)
  ]
  | inr differ ↦ inr (subst (λ (ys : List ℕ). Contains ys y) (put_other lists m (x ∷ lists m) k differ) among)
]

-- a slot that stands in no list is linked to the front of one
pub pushed : (head new next links : ℕ → ℕ) (lists : ℕ → List ℕ) (m x : ℕ) → AreLinked head next lists → IsLoose x lists
    → new m ≡ x + 1 → ((k : ℕ) → k ≢ m → new k ≡ head k) → links x ≡ head m → ((y : ℕ) → y ≢ x → links y ≡ next y) → AreLinked new links (put lists m (x ∷ lists m))
pushed head new next links lists m x linked loose here other link others = record {
  chains = put_each lists m (x ∷ lists m) (λ k ys. IsChain links (new k) ys)
      (here, subst (λ (n : ℕ). IsChain links n (lists m)) (sym link) (chain_same next links x (lists m) (head m) others (loose m) (linked.chains m)))
      (λ k differ. subst (λ (n : ℕ). IsChain links n (lists k)) (sym (other k differ)) (chain_same next links x (lists k) (head k) others (loose k) (linked.chains k)));
  once = put_each lists m (x ∷ lists m) (λ k ys. IsOnce ys) (loose m, linked.once m) (λ k differ. linked.once k);
  apart = λ k j y one two. elim (pushed_cases lists m x k y one) [
    | inl new_one ↦ elim (pushed_cases lists m x j y two) [
      | inl new_two ↦ new_one.0 ∙ sym new_two.0
      | inr old_two ↦ absurd (loose j (subst (λ (n : ℕ). Contains (lists j) n) new_one.1 old_two))
    ]
    | inr old_one ↦ elim (pushed_cases lists m x j y two) [
      | inl new_two ↦ absurd (loose k (subst (λ (n : ℕ). Contains (lists k) n) new_two.1 old_one))
      | inr old_two ↦ linked.apart k j y old_one old_two
    ]
  ];
}

-- a whole list is moved to the place of an empty one
pub given : (head new next : ℕ → ℕ) (lists : ℕ → List ℕ) (l m : ℕ) → l ≢ m → AreLinked head next lists → lists m ≡ [] → new l ≡ 0 → new m ≡ head l
    → ((k : ℕ) → k ≢ l → k ≢ m → new k ≡ head k) → AreLinked new next (put (put lists l []) m (lists l))
given head new next lists l m apart linked empty none moved other = record {
  chains = put_each (put lists l []) m (lists l) (λ k ys. IsChain next (new k) ys)
      (subst (λ (n : ℕ). IsChain next n (lists l)) (sym moved) (linked.chains l))
      (put_each lists l [] (λ k ys. k ≢ m → IsChain next (new k) ys) (λ _. none)
      (λ k differ not_m. subst (λ (n : ℕ). IsChain next n (lists k)) (sym (other k differ not_m)) (linked.chains k)));
  once = put_each (put lists l []) m (lists l) (λ k ys. IsOnce ys) (linked.once l) (λ k _. put_each lists l [] (λ n ys. IsOnce ys) tt (λ n differ. linked.once n) k);
  apart = λ j k x one two. elim (from j x one) [
    | inl new_one ↦ elim (from k x two) [
      | inl new_two ↦ new_one.0 ∙ sym new_two.0
      | inr old_two ↦ absurd (old_two.0 (linked.apart k l x old_two.1 new_one.1))
    ]
    | inr old_one ↦ elim (from k x two) [
      | inl new_two ↦ absurd (old_one.0 (linked.apart j l x old_one.1 new_two.1))
      | inr old_two ↦ linked.apart j k x old_one.1 old_two.1
    ]
  ];
}
  where
    from : (j x : ℕ) → Contains (put (put lists l []) m (lists l) j) x → ((j ≡ m) × Contains (lists l) x) ⊎ ((j ≢ l) × Contains (lists j) x)
    from j x = put_each (put lists l []) m (lists l) (λ k ys. Contains ys x → ((k ≡ m) × Contains (lists l) x) ⊎ ((k ≢ l) × Contains (lists k) x))
        (λ among. inl (refl, among))
        (λ k differ. put_each lists l [] (λ n ys. Contains ys x → ((n ≡ m) × Contains (lists l) x) ⊎ ((n ≢ l) × Contains (lists n) x)) (λ no. absurd (nothing_in _ no)) (λ n not_l among. inr (not_l, among)) k) j
