use Rattle.std.proofs.Common.{◌≡◌, ◌≢◌, ℕ, ◌+◌, ◌-◌, ◌<◌, ◌≤◌, List, [], ◌∷◌, ◌++◌, length, refl, sym, ◌∙◌, ap, arith}
use Rattle.std.specs.List.{AllByRecursion}
use Rattle.gp_queue.specs.Links.{AreLinked, IsChain, first_place, last_place, IsOff, IsOnce, walk}

-- a place at neither of two parts is at neither in one list of them, and the other way round
pub off_front : (p : ℕ) (xs ys : List ℕ) → IsOff p (xs ++ ys) → IsOff p xs
off_front p [] ys h = tt
off_front p (x ∷ xs) ys h = (h.0, off_front p xs ys h.1)

pub off_back : (p : ℕ) (xs ys : List ℕ) → IsOff p (xs ++ ys) → IsOff p ys
off_back p [] ys h = h
off_back p (x ∷ xs) ys h = off_back p xs ys h.1

pub off_both : (p : ℕ) (xs ys : List ℕ) → IsOff p xs → IsOff p ys → IsOff p (xs ++ ys)
off_both p [] ys f b = b
off_both p (x ∷ xs) ys f b = (f.0, off_both p xs ys f.1 b)

-- place 0 is no number's
pub zero_off : (xs : List ℕ) → IsOff 0 xs
zero_off [] = tt
zero_off (x ∷ xs) = ((λ e. omega arith), zero_off xs)

-- numbers below a bound are not at that bound's place
pub below_off : (n : ℕ) (xs : List ℕ) → AllByRecursion (λ x. x < n) xs → IsOff (n + 1) xs
below_off n [] h = tt
below_off n (x ∷ xs) h = let lt : x < n = h.0 in ((λ e. omega arith), below_off n xs h.1)

-- each part of a list without repeats has none
pub once_front : (xs ys : List ℕ) → IsOnce (xs ++ ys) → IsOnce xs
once_front [] ys h = tt
once_front (x ∷ xs) ys h = (off_front (x + 1) xs ys h.0, once_front xs ys h.1)

pub once_back : (xs ys : List ℕ) → IsOnce (xs ++ ys) → IsOnce ys
once_back [] ys h = h
once_back (x ∷ xs) ys h = once_back xs ys h.1

-- without one number, the rest are still there once each, and that one is not among them
pub once_without : (xs : List ℕ) (i : ℕ) (ys : List ℕ) → IsOnce (xs ++ i ∷ ys) → IsOnce (xs ++ ys)
once_without [] i ys h = h.1
once_without (x ∷ xs) i ys h =
    (off_both (x + 1) xs ys (off_front (x + 1) xs (i ∷ ys) h.0) (off_back (x + 1) xs (i ∷ ys) h.0).1, once_without xs i ys h.1)

pub off_without : (xs : List ℕ) (i : ℕ) (ys : List ℕ) → IsOnce (xs ++ i ∷ ys) → IsOff (i + 1) (xs ++ ys)
off_without [] i ys h = h.0
off_without (x ∷ xs) i ys h =
    let ne : x + 1 ≢ i + 1 = (off_back (x + 1) xs (i ∷ ys) h.0).0 in
    ((λ e. ne (sym e)), off_without xs i ys h.1)

-- a number that is not there can stand between two parts
pub once_with : (xs : List ℕ) (i : ℕ) (ys : List ℕ) → IsOnce (xs ++ ys) → IsOff (i + 1) (xs ++ ys) → IsOnce (xs ++ i ∷ ys)
once_with [] i ys h off = (off, h)
once_with (x ∷ xs) i ys h off =
    (off_both (x + 1) xs (i ∷ ys) (off_front (x + 1) xs ys h.0) ((λ e. off.0 (sym e)), off_back (x + 1) xs ys h.0), once_with xs i ys h.1 off.1)

-- the last place of a part is that of none of these numbers, if its place and each of its numbers' are not
pub not_last : (p a : ℕ) (xs : List ℕ) → p ≢ a → IsOff p xs → p ≢ last_place a xs
not_last p a [] ne off = ne
not_last p a (x ∷ xs) ne off = not_last p (x + 1) xs off.0 off.1

-- where a part ends is the place of no later number, and where the rest begins that of no earlier one
pub last_off : (a : ℕ) (xs ys : List ℕ) → IsOff a ys → IsOnce (xs ++ ys) → IsOff (last_place a xs) ys
last_off a [] ys off h = off
last_off a (x ∷ xs) ys off h = last_off (x + 1) xs ys (off_back (x + 1) xs ys h.0) h.1

-- a place of no number is not where they begin
pub not_first : (p : ℕ) (ys : List ℕ) → p ≢ 0 → IsOff p ys → p ≢ first_place ys 0
not_first p [] ne off = ne
not_first p (y ∷ ys) ne off = off.0

pub first_off : (xs ys : List ℕ) → IsOnce (xs ++ ys) → IsOff (first_place ys 0) xs
first_off [] ys h = tt
first_off (x ∷ xs) ys h =
    let ne : x + 1 ≢ first_place ys 0 = not_first (x + 1) ys (λ e. omega arith) (off_back (x + 1) xs ys h.0) in
    ((λ e. ne (sym e)), first_off xs ys h.1)

-- numbers below a bound end, and begin, at no place above it
pub last_below : (n a : ℕ) (xs : List ℕ) → a ≤ n → AllByRecursion (λ x. x < n) xs → last_place a xs ≤ n
last_below n a [] le h = le
last_below n a (x ∷ xs) le h = let lt : x < n = h.0 in last_below n (x + 1) xs (omega arith) h.1

pub first_below : (n : ℕ) (xs : List ℕ) → AllByRecursion (λ x. x < n) xs → first_place xs 0 ≤ n
first_below n [] h = omega arith
first_below n (x ∷ xs) h = let lt : x < n = h.0 in omega arith

-- a bound on a list is one on each part, and the other way round; and a larger one is a bound too
pub below_front : (n : ℕ) (xs ys : List ℕ) → AllByRecursion (λ x. x < n) (xs ++ ys) → AllByRecursion (λ x. x < n) xs
below_front n [] ys h = tt
below_front n (x ∷ xs) ys h = (h.0, below_front n xs ys h.1)

pub below_back : (n : ℕ) (xs ys : List ℕ) → AllByRecursion (λ x. x < n) (xs ++ ys) → AllByRecursion (λ x. x < n) ys
below_back n [] ys h = h
below_back n (x ∷ xs) ys h = below_back n xs ys h.1

pub below_both : (n : ℕ) (xs ys : List ℕ) → AllByRecursion (λ x. x < n) xs → AllByRecursion (λ x. x < n) ys → AllByRecursion (λ x. x < n) (xs ++ ys)
below_both n [] ys f b = b
below_both n (x ∷ xs) ys f b = (f.0, below_both n xs ys f.1 b)

pub below_more : (n m : ℕ) (xs : List ℕ) → n ≤ m → AllByRecursion (λ x. x < n) xs → AllByRecursion (λ x. x < m) xs
below_more n m [] le h = tt
below_more n m (x ∷ xs) le h = let lt : x < n = h.0 in (omega arith, below_more n m xs le h.1)

-- a chain leads from its start to where its numbers begin
pub chain_first : (next prev : ℕ → ℕ) (a : ℕ) (xs : List ℕ) (b : ℕ) → IsChain next prev a xs b → next a ≡ first_place xs b
chain_first next prev a [] b h = h.0
chain_first next prev a (x ∷ xs) b h = h.0.0

-- a chain parts where two lists meet, and the link across belongs to both
pub front_chain : (next prev : ℕ → ℕ) (a : ℕ) (xs ys : List ℕ) (b : ℕ) → IsChain next prev a (xs ++ ys) b → IsChain next prev a xs (first_place ys b)
front_chain next prev a [] [] b h = h
front_chain next prev a [] (y ∷ ys) b h = h.0
front_chain next prev a (x ∷ xs) ys b h = (h.0, front_chain next prev (x + 1) xs ys b h.1)

pub back_chain : (next prev : ℕ → ℕ) (a : ℕ) (xs ys : List ℕ) (b : ℕ) → IsChain next prev a (xs ++ ys) b → IsChain next prev (last_place a xs) ys b
back_chain next prev a [] ys b h = h
back_chain next prev a (x ∷ xs) ys b h = back_chain next prev (x + 1) xs ys b h.1

pub chain_both : (next prev : ℕ → ℕ) (a : ℕ) (xs ys : List ℕ) (b : ℕ) → IsChain next prev a xs (first_place ys b) →
    IsChain next prev (last_place a xs) ys b → IsChain next prev a (xs ++ ys) b
chain_both next prev a [] ys b f h = h
chain_both next prev a (x ∷ xs) ys b f h = (f.0, chain_both next prev (x + 1) xs ys b f.1 h)

-- the next links differ at most at u and v, and the links back at most at w and v
pub record IsRewired (next prev next' prev' : ℕ → ℕ) (u w v : ℕ) : Type 0 where
  pub forth : (p : ℕ) → p ≢ u → p ≢ v → next' p ≡ next p
  pub back : (p : ℕ) → p ≢ w → p ≢ v → prev' p ≡ prev p

-- a chain that meets no changed place stays
pub chain_kept : (next prev next' prev' : ℕ → ℕ) (u w v : ℕ) → IsRewired next prev next' prev' u w v → (a : ℕ) (xs : List ℕ) →
    a ≢ u → a ≢ v → IsOff u xs → IsOff w xs → IsOff v xs → w ≢ 0 → v ≢ 0 → IsChain next prev a xs 0 → IsChain next' prev' a xs 0
chain_kept next prev next' prev' u w v r a [] au av ou ow ov w0 v0 h =
    (r.forth a au av ∙ h.0, r.back 0 (λ e. w0 (sym e)) (λ e. v0 (sym e)) ∙ h.1)
chain_kept next prev next' prev' u w v r a (x ∷ xs) au av ou ow ov w0 v0 h = (
  (r.forth a au av ∙ h.0.0, r.back (x + 1) (λ e. ow.0 (sym e)) (λ e. ov.0 (sym e)) ∙ h.0.1),
  chain_kept next prev next' prev' u w v r (x + 1) xs (λ e. ou.0 (sym e)) (λ e. ov.0 (sym e)) ou.1 ow.1 ov.1 w0 v0 h.1,
)

-- the first part, whose last link now leads to m
pub front_rewired : (next prev next' prev' : ℕ → ℕ) (w v : ℕ) (a : ℕ) (xs : List ℕ) (old m : ℕ) →
    IsRewired next prev next' prev' (last_place a xs) w v → a ≢ v → IsOff a xs → IsOff w xs → IsOff v xs → IsOnce xs →
    IsChain next prev a xs old → AreLinked next' prev' (last_place a xs) m → IsChain next' prev' a xs m
front_rewired next prev next' prev' w v a [] old m r av oa ow ov once h new = new
front_rewired next prev next' prev' w v a (x ∷ xs) old m r av oa ow ov once h new = (
  (r.forth a (not_last a (x + 1) xs oa.0 oa.1) av ∙ h.0.0, r.back (x + 1) (λ e. ow.0 (sym e)) (λ e. ov.0 (sym e)) ∙ h.0.1),
  front_rewired next prev next' prev' w v (x + 1) xs old m r (λ e. ov.0 (sym e)) once.0 ow.1 ov.1 once.1 h.1 new,
)

-- the second part, whose first link now comes from m
pub back_rewired : (next prev next' prev' : ℕ → ℕ) (u v : ℕ) (old m : ℕ) (ys : List ℕ) →
    IsRewired next prev next' prev' u (first_place ys 0) v → IsOff u ys → IsOff v ys → v ≢ 0 → IsOnce ys →
    IsChain next prev old ys 0 → AreLinked next' prev' m (first_place ys 0) → IsChain next' prev' m ys 0
back_rewired next prev next' prev' u v old m [] r ou ov v0 once h new = new
back_rewired next prev next' prev' u v old m (y ∷ ys) r ou ov v0 once h new =
    (new, chain_kept next prev next' prev' u (y + 1) v r (y + 1) ys (λ e. ou.0 (sym e)) (λ e. ov.0 (sym e)) ou.1 once.0 ov.1 (λ e. omega arith) v0 h.1)

-- a walk along a chain reads its numbers
pub walk_chain : (next prev : ℕ → ℕ) (a : ℕ) (xs : List ℕ) (b : ℕ) → IsChain next prev a xs b → walk next (length xs) (next a) ≡ xs
walk_chain next prev a [] b h = refl
walk_chain next prev a (x ∷ xs) b h =
    let here : next a - 1 ≡ x = omega (arith, h.0.0) in
    let rest : walk next (length xs) (next (next a)) ≡ xs = ap (λ p. walk next (length xs) (next p)) h.0.0 ∙ walk_chain next prev (x + 1) xs b h.1 in
    ap (λ n. n ∷ walk next (length xs) (next (next a))) here ∙ ap (λ l. x ∷ l) rest

-- a chain over places up to n stays where the links read the same at all of them
pub chain_same : (next prev next' prev' : ℕ → ℕ) (n : ℕ) → ((p : ℕ) → p ≤ n → next' p ≡ next p) → ((p : ℕ) → p ≤ n → prev' p ≡ prev p) →
    (a : ℕ) (xs : List ℕ) → a ≤ n → AllByRecursion (λ x. x < n) xs → IsChain next prev a xs 0 → IsChain next' prev' a xs 0
chain_same next prev next' prev' n f b a [] le low h = (f a le ∙ h.0, b 0 (omega arith) ∙ h.1)
chain_same next prev next' prev' n f b a (x ∷ xs) le low h =
    let lt : x < n = low.0 in
    let here : x + 1 ≤ n = omega arith in
    ((f a le ∙ h.0.0, b (x + 1) here ∙ h.0.1), chain_same next prev next' prev' n f b (x + 1) xs here low.1 h.1)
