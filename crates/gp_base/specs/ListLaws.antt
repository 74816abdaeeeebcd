-- Laws of plain lists: what stands in them, what each element keeps, what stands at a place.
use Rattle.std.specs.Prelude.{ℕ, zero, suc, ◌+◌, ◌<◌, ◌≡◌, ◌≢◌, ◌⊎◌, Bool, true, false, Option, None, Some, List, [], ◌∷◌, ◌++◌, if◌then◌else◌, All, Any, Contains, length, map, flat_map, take, drop, find}
use Rattle.std.specs.List.{AllByRecursion, AllPairs, slice_get}
use Rattle.std.specs.Option.{option_map}
use Rattle.std.proofs.Common.{inl, inr, refl, ap, sym, subst, ◌∙◌, arith}
use Rattle.std.proofs.lemmas.Bool.{cases_Bool, false≢true}
use Rattle.std.proofs.lemmas.List.{length-map, get_or-map}
use Rattle.std.proofs.lemmas.List.Elements.{All-contains, All-cons, All-from_recursion, All-nil, Contains-append_cases, Contains-append_left, Contains-append_right, recursion_from_All}
use Rattle.std.proofs.lemmas.Option.{slice_get_within, get_or_from_slice_get, slice_get-map, same_Some, none-some}

-- nothing stands in the empty list
pub nothing_in : {X : Type 0} (x : X) → Contains [] x → ⊥
nothing_in x (k, within, is) = absurd (omega (arith, within))

-- the first of a list stands in it, and so does what stands in the rest
pub here : {X : Type 0} (x : X) (xs : List X) → Contains (x ∷ xs) x
here x xs = (0, omega arith, refl)

pub there : {X : Type 0} (x : X) (xs : List X) (y : X) → Contains xs y → Contains (x ∷ xs) y
there x xs y (k, within, is) = (suc k, omega arith, is)

-- what stands in a list is its first, or stands in the rest
pub first_or_rest : {X : Type 0} (x : X) (xs : List X) (y : X) → Contains (x ∷ xs) y → (x ≡ y) ⊎ Contains xs y
first_or_rest x xs y (zero, within, is) = inl is
first_or_rest x xs y (suc k, within, is) = inr (k, omega arith, is)

-- what stands between a front and a back stands in the whole list
pub contains_middle : {X : Type 0} (x : X) (front back : List X) → Contains (front ++ x ∷ back) x
contains_middle x front back = Contains-append_right front (x ∷ back) x (here x back)

-- what stands in such a list stands in the front, is what stands between, or stands in the back
pub contains_parts : {X : Type 0} (x middle : X) (front back : List X) → Contains (front ++ middle ∷ back) x → Contains front x ⊎ ((middle ≡ x) ⊎ Contains back x)
contains_parts x middle front back i =
    elim (Contains-append_cases front (middle ∷ back) x i) [
      | inl early ↦ inl early
      | inr rest ↦ inr (first_or_rest middle back x rest)
    ]

-- nothing holds of some element of the empty list, and what holds of some element of a list holds of its first, or of some of the rest
pub any_nothing : {X : Type 0} (P : X → Type 0) → Any P [] → ⊥
any_nothing P (k, x, within, is, holds) = absurd (omega (arith, within))

pub any_first_or_rest : {X : Type 0} (P : X → Type 0) (x : X) (xs : List X) → Any P (x ∷ xs) → P x ⊎ Any P xs
any_first_or_rest P x xs (zero, y, within, is, holds) = inl (subst P (sym is) holds)
any_first_or_rest P x xs (suc k, y, within, is, holds) = inr (k, y, omega (arith, within), is, holds)

pub contains_got : {X : Type 0} (xs : List X) (k : ℕ) (x : X) → slice_get xs k ≡ Some x → Contains xs x
contains_got xs k x is = (k, slice_get_within xs k x is, get_or_from_slice_get xs k x x is)

-- what is found stands in the list, and passes the test
pub contains_found : {X : Type 0} (test : X → Bool) (xs : List X) (x : X) → find test xs ≡ Some x → Contains xs x × (test x ≡ true)
contains_found test [] x e = cc
contains_found test (first ∷ xs) x e =
    elim (cases_Bool (test first)) [
      | inl passes ↦
          let found : ◌≡◌ {A = Option _} (Some first) (Some x) = rw passes at e in
          let same : first ≡ x = cc in
          ((0, omega arith, same), subst (λ q. test q ≡ true) same passes)
      | inr fails ↦ let rest = contains_found test xs x (rw fails at e) in (there first xs x rest.0, rest.1)
    ]

-- what stands in a list stands, mapped, in the list that is mapped, and the other way round
pub contains_map : {X Y : Type 0} (f : X → Y) (xs : List X) (x : X) → Contains xs x → Contains (map f xs) (f x)
contains_map f xs x (k, within, is) = (k, omega (arith, length-map xs f), get_or-map f xs k x (f x) within ∙ ap f is)

pub contains_from_map : {X Y : Type 0} (f : X → Y) (xs : List X) (y : Y) → Contains (map f xs) y → (x : X) × Contains xs x × (f x ≡ y)
contains_from_map f [] y i = absurd (nothing_in y i)
contains_from_map f (first ∷ xs) y i =
    elim (first_or_rest (f first) (map f xs) y i) [
      | inl same ↦ (first, here first xs, same)
      | inr more ↦ let rest = contains_from_map f xs y more in (rest.0, there first xs rest.0 rest.1, rest.2)
    ]

pub contains_flat_map : {X Y : Type 0} (f : X → List Y) (xs : List X) (x : X) (y : Y) → Contains xs x → Contains (f x) y → Contains (flat_map f xs) y
contains_flat_map f [] x y i j = absurd (nothing_in x i)
contains_flat_map f (first ∷ xs) x y i j =
    elim (first_or_rest first xs x i) [
      | inl same ↦ Contains-append_left (f first) (flat_map f xs) y (subst (λ z. Contains (f z) y) (sym same) j)
      | inr more ↦ Contains-append_right (f first) (flat_map f xs) y (contains_flat_map f xs x y more j)
    ]

pub contains_from_flat_map : {X Y : Type 0} (f : X → List Y) (xs : List X) (y : Y) → Contains (flat_map f xs) y → (x : X) × Contains xs x × Contains (f x) y
contains_from_flat_map f [] y i = absurd (nothing_in y i)
contains_from_flat_map f (first ∷ xs) y i =
    elim (Contains-append_cases (f first) (flat_map f xs) y i) [
      | inl own ↦ (first, here first xs, own)
      | inr more ↦ let rest = contains_from_flat_map f xs y more in (rest.0, there first xs rest.0 rest.1, rest.2)
    ]

-- of a list of one element, or of none
pub contains_unless : {X : Type 0} (b : Bool) (x : X) → b ≡ false → Contains (if b then [] else x ∷ []) x
contains_unless true x e = cc
contains_unless false x e = here x []

pub contains_from_unless : {X : Type 0} (b : Bool) (x y : X) → Contains (if b then [] else x ∷ []) y → (b ≡ false) × (x ≡ y)
contains_from_unless true x y i = absurd (nothing_in y i)
contains_from_unless false x y i =
    elim (first_or_rest x [] y i) [
      | inl same ↦ (refl, same)
      | inr none ↦ absurd (nothing_in y none)
    ]

-- what stands in a part stands in the whole
pub contains_from_take : {X : Type 0} (n : ℕ) (xs : List X) (x : X) → Contains (take n xs) x → Contains xs x
contains_from_take zero xs x i = absurd (nothing_in x i)
contains_from_take (suc n) [] x i = absurd (nothing_in x i)
contains_from_take (suc n) (first ∷ xs) x i =
    elim (first_or_rest first (take n xs) x i) [
      | inl same ↦ (0, omega arith, same)
      | inr more ↦ there first xs x (contains_from_take n xs x more)
    ]

pub contains_from_drop : {X : Type 0} (n : ℕ) (xs : List X) (x : X) → Contains (drop n xs) x → Contains xs x
contains_from_drop zero xs x i = i
contains_from_drop (suc n) [] x i = absurd (nothing_in x i)
contains_from_drop (suc n) (first ∷ xs) x i = there first xs x (contains_from_drop n xs x i)

pub contains_from_cut : {X : Type 0} (n : ℕ) (xs : List X) (x : X) → Contains (take n xs ++ drop n xs) x → Contains xs x
contains_from_cut n xs x i =
    elim (Contains-append_cases (take n xs) (drop n xs) x i) [
      | inl early ↦ contains_from_take n xs x early
      | inr late ↦ contains_from_drop n xs x late
    ]

-- what each element keeps, by recursion on the list: of one of them, and from each of them
pub recursion_at : {X : Type 0} (P : X → Type 0) (xs : List X) (x : X) → AllByRecursion P xs → Contains xs x → P x
recursion_at P xs x h i = All-contains P xs x (All-from_recursion P xs h) i

pub recursion_from_each : {X : Type 0} (P : X → Type 0) (xs : List X) → ((x : X) → Contains xs x → P x) → AllByRecursion P xs
recursion_from_each P [] h = tt
recursion_from_each P (x ∷ xs) h = (h x (here x xs), recursion_from_each P xs (λ y i. h y (there x xs y i)))

-- of two lists, one after the other
pub recursion_append : {X : Type 0} (P : X → Type 0) (xs ys : List X) → AllByRecursion P xs → AllByRecursion P ys → AllByRecursion P (xs ++ ys)
recursion_append P [] ys h k = k
recursion_append P (x ∷ xs) ys h k = (h.0, recursion_append P xs ys h.1 k)

pub recursion_parts : {X : Type 0} (P : X → Type 0) (xs ys : List X) → AllByRecursion P (xs ++ ys) → AllByRecursion P xs × AllByRecursion P ys
recursion_parts P [] ys h = (tt, h)
recursion_parts P (x ∷ xs) ys h = let rest = recursion_parts P xs ys h.1 in ((h.0, rest.0), rest.1)

-- of what the elements are mapped to
pub recursion_map : {X Y : Type 0} (P : Y → Type 0) (f : X → Y) (xs : List X) → ((x : X) → Contains xs x → P (f x)) → AllByRecursion P (map f xs)
recursion_map P f [] h = tt
recursion_map P f (x ∷ xs) h = (h x (here x xs), recursion_map P f xs (λ y i. h y (there x xs y i)))

pub recursion_flat_map : {X Y : Type 0} (P : Y → Type 0) (f : X → List Y) (xs : List X) → ((x : X) → Contains xs x → AllByRecursion P (f x)) → AllByRecursion P (flat_map f xs)
recursion_flat_map P f [] h = tt
recursion_flat_map P f (x ∷ xs) h = recursion_append P (f x) (flat_map f xs) (h x (here x xs)) (recursion_flat_map P f xs (λ y i. h y (there x xs y i)))

pub recursion_flat_map_at : {X Y : Type 0} (P : Y → Type 0) (f : X → List Y) (xs : List X) (x : X) → AllByRecursion P (flat_map f xs) → Contains xs x → AllByRecursion P (f x)
recursion_flat_map_at P f [] x h i = absurd (nothing_in x i)
recursion_flat_map_at P f (first ∷ xs) x h i =
    let parts = recursion_parts P (f first) (flat_map f xs) h in
    elim (first_or_rest first xs x i) [
      | inl same ↦ subst (λ z. AllByRecursion P (f z)) same parts.0
      | inr more ↦ recursion_flat_map_at P f xs x parts.1 more
    ]

recursion_take : {X : Type 0} (P : X → Type 0) (n : ℕ) (xs : List X) → AllByRecursion P xs → AllByRecursion P (take n xs)
recursion_take P zero xs h = tt
recursion_take P (suc n) [] h = tt
recursion_take P (suc n) (x ∷ xs) h = (h.0, recursion_take P n xs h.1)

-- each element stands so to all later ones
abbrev pub Pairwise : {X : Type 0} → (X → X → Type 0) → List X → Type 0
Pairwise R [] = Unit {0}
Pairwise R (x ∷ xs) = AllByRecursion (R x) xs × Pairwise R xs

-- pairs by places are pairs by recursion
pub pairwise_from_pairs : {X : Type 0} (R : X → X → Type 0) (xs : List X) → AllPairs R xs → Pairwise R xs
pairwise_from_pairs R [] pairs = tt
pairwise_from_pairs R (first ∷ xs) pairs = (
  recursion_from_All (R first) xs (λ at d below. pairs 0 (suc at) d (omega arith) (omega (arith, below))),
  pairwise_from_pairs R xs (λ i j d less below. pairs (suc i) (suc j) d (omega (arith, less)) (omega (arith, below))),
)

pub pairwise_append : {X : Type 0} (R : X → X → Type 0) (xs ys : List X) → Pairwise R xs → Pairwise R ys → ((x y : X) → Contains xs x → Contains ys y → R x y) → Pairwise R (xs ++ ys)
pairwise_append R [] ys h k c = k
pairwise_append R (x ∷ xs) ys h k c = (
  recursion_append (R x) xs ys h.0 (recursion_from_each (R x) ys (λ y j. c x y (here x xs) j)),
  pairwise_append R xs ys h.1 k (λ z y i j. c z y (there x xs z i) j),
)

pub pairwise_flat_map : {X Y : Type 0} (S : X → X → Type 0) (R : Y → Y → Type 0) (f : X → List Y) (xs : List X) → Pairwise S xs → ((x : X) → Contains xs x → Pairwise R (f x))
    → ((x z : X) → Contains xs x → Contains xs z → S x z → (y w : Y) → Contains (f x) y → Contains (f z) w → R y w) → Pairwise R (flat_map f xs)
pairwise_flat_map S R f [] pairs own cross = tt
pairwise_flat_map S R f (x ∷ xs) pairs own cross =
    pairwise_append R (f x) (flat_map f xs) (own x (here x xs))
    (pairwise_flat_map S R f xs pairs.1 (λ z i. own z (there x xs z i)) (λ a b i j. cross a b (there x xs a i) (there x xs b j)))
    (λ y w i j.
    let back = contains_from_flat_map f xs w j in
    cross x back.0 (here x xs) (there x xs back.0 back.1) (recursion_at (S x) xs back.0 pairs.0 back.1) y w i back.2)

pub pairwise_map : {X Y : Type 0} (S : X → X → Type 0) (R : Y → Y → Type 0) (f : X → Y) (xs : List X) → Pairwise S xs
    → ((x z : X) → Contains xs x → Contains xs z → S x z → R (f x) (f z)) → Pairwise R (map f xs)
pairwise_map S R f [] pairs cross = tt
pairwise_map S R f (x ∷ xs) pairs cross = (
  recursion_map (R (f x)) f xs (λ z i. cross x z (here x xs) (there x xs z i) (recursion_at (S x) xs z pairs.0 i)),
  pairwise_map S R f xs pairs.1 (λ a b i j. cross a b (there x xs a i) (there x xs b j)),
)

pub pairwise_unless : {X : Type 0} (R : X → X → Type 0) (b : Bool) (x : X) → Pairwise R (if b then [] else x ∷ [])
pairwise_unless R true x = tt
pairwise_unless R false x = (tt, tt)

-- what is found is the first that passes
pub found_first : {X : Type 0} (R : X → X → Type 0) (test : X → Bool) (xs : List X) (x y : X) → Pairwise R xs → find test xs ≡ Some x → Contains xs y → test y ≡ true
    → (x ≡ y) ⊎ R x y
found_first R test [] x y pairs e i passes = absurd (nothing_in y i)
found_first R test (first ∷ xs) x y pairs e i passes =
    let place = first_or_rest first xs y i in
    elim (cases_Bool (test first)) [
      | inl own ↦
          let found : ◌≡◌ {A = Option _} (Some first) (Some x) = rw own at e in
          let same : first ≡ x = cc in
          elim place [
            | inl one ↦ inl (sym same ∙ one)
            | inr later ↦ inr (subst (λ z. R z y) same (recursion_at (R first) xs y pairs.0 later))
          ]
      | inr fails ↦ elim place [
        | inl one ↦ absurd (false≢true (sym fails ∙ subst (λ z. test z ≡ true) (sym one) passes))
        | inr later ↦ found_first R test xs x y pairs.1 (rw fails at e) later passes
      ]
    ]

-- no two of the list are one
abbrev pub AreDifferent : {X : Type 0} → List X → Type 0
AreDifferent xs = Pairwise (λ one other. one ≢ other) xs

pub different_taken : {X : Type 0} (n : ℕ) (xs : List X) → AreDifferent xs → AreDifferent (take n xs)
different_taken zero xs h = tt
different_taken (suc n) [] h = tt
different_taken (suc n) (x ∷ xs) h = (recursion_take (λ other. x ≢ other) n xs h.0, different_taken n xs h.1)

pub different_dropped : {X : Type 0} (n : ℕ) (xs : List X) → AreDifferent xs → AreDifferent (drop n xs)
different_dropped zero xs h = h
different_dropped (suc n) [] h = tt
different_dropped (suc n) (x ∷ xs) h = different_dropped n xs h.1

-- an element of the front differs from each one after it
pub split_apart : {X : Type 0} (n : ℕ) (xs : List X) → AreDifferent xs → (a b : X) → Contains (take n xs) a → Contains (drop n xs) b → a ≢ b
split_apart zero xs h a b i j = absurd (nothing_in a i)
split_apart (suc n) [] h a b i j = absurd (nothing_in a i)
split_apart (suc n) (x ∷ xs) h a b i j =
    elim (first_or_rest x (take n xs) a i) [
      | inl same ↦ λ e. recursion_at (λ other. x ≢ other) xs b h.0 (contains_from_drop n xs b j) (same ∙ e)
      | inr more ↦ split_apart n xs h.1 a b more j
    ]

-- what holds at each place holds of each element
pub all_from_got : {X : Type 0} (P : X → Type 0) (xs : List X) → ((k : ℕ) (x : X) → slice_get xs k ≡ Some x → P x) → All P xs
all_from_got P [] each = All-nil P
all_from_got P (x ∷ xs) each = All-cons P x xs (each 0 x refl) (all_from_got P xs (λ k y is. each (suc k) y is))

pub all_from_contains : {X : Type 0} (P : X → Type 0) (xs : List X) → ((x : X) → Contains xs x → P x) → All P xs
all_from_contains P xs each = all_from_got P xs (λ k x got. each x (contains_got xs k x got))

pub got_all : {X : Type 0} (P : X → Type 0) (xs : List X) (k : ℕ) (x : X) → All P xs → slice_get xs k ≡ Some x → P x
got_all P xs k x all is = rw (get_or_from_slice_get xs k x x is) at (all k x (slice_get_within xs k x is))

-- a list keeps its elements when others are added
pub slice_get_front : {X : Type 0} (xs ys : List X) (k : ℕ) → k < length xs → slice_get (xs ++ ys) k ≡ slice_get xs k
slice_get_front [] ys k within = absurd (omega arith)
slice_get_front (x ∷ xs) ys zero within = refl
slice_get_front (x ∷ xs) ys (suc k) within = slice_get_front xs ys k (omega arith)

pub got_front : {X : Type 0} (xs ys : List X) (k : ℕ) (x : X) → slice_get xs k ≡ Some x → slice_get (xs ++ ys) k ≡ Some x
got_front xs ys k x is = slice_get_front xs ys k (slice_get_within xs k x is) ∙ is

pub slice_get_back : {X : Type 0} (xs ys : List X) (k : ℕ) → slice_get (xs ++ ys) (length xs + k) ≡ slice_get ys k
slice_get_back [] ys k = ap (λ n. slice_get ys n) (let same : 0 + k ≡ k = omega arith in same)
slice_get_back (x ∷ xs) ys k =
    let same : suc (length xs) + k ≡ suc (length xs + k) = omega arith in
    ap (λ n. slice_get (x ∷ xs ++ ys) n) same ∙ slice_get_back xs ys k

-- what a function of an element is made of
pub mapped : {X Y : Type 0} (f : X → Y) (o : Option X) (y : Y) → option_map f o ≡ Some y → (x : X) × (o ≡ Some x) × (f x ≡ y)
mapped f None y is = absurd (none-some y is)
mapped f (Some x) y is = (x, refl, same_Some (f x) y is)

-- an element of two lists, one after the other, the second of which is mapped
pub joined_cases : {X Y : Type 0} (f : X → Y) (ys : List Y) (xs : List X) (k : ℕ) (y : Y) → slice_get (ys ++ map f xs) k ≡ Some y
    → (slice_get ys k ≡ Some y) ⊎ ((other : ℕ) × (x : X) × (length ys + other ≡ k) × (slice_get xs other ≡ Some x) × (f x ≡ y))
joined_cases f [] xs k y is =
    let parts = mapped f (slice_get xs k) y (sym (slice_get-map f xs k) ∙ is) in
    inr (k, parts.0, omega arith, parts.1, parts.2)
joined_cases f (z ∷ ys) xs zero y is = inl is
joined_cases {X} {Y} f (z ∷ ys) xs (suc k) y is = at (joined_cases f ys xs k y is)
  where
    at : (slice_get ys k ≡ Some y) ⊎ ((other : ℕ) × (x : X) × (length ys + other ≡ k) × (slice_get xs other ≡ Some x) × (f x ≡ y))
        → (slice_get ys k ≡ Some y) ⊎ ((other : ℕ) × (x : X) × (suc (length ys) + other ≡ suc k) × (slice_get xs other ≡ Some x) × (f x ≡ y))
    at (inl first) = inl first
    at (inr (other, x, place, got, same)) = inr (other, x, omega arith, got, same)
