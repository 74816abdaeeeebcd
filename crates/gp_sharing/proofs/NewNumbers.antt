-- The new numbers of own steps, listed one after the other.
use Rattle.std.proofs.Common.{◌≡◌, refl, ap, sym, ◌∙◌, subst, ℕ, ◌+◌, ◌-◌, ◌<◌, ◌≤◌, ◌⊎◌, inl, inr, Bool, true, false, cond, nat_lt, List, [], ◌∷◌, ◌++◌, Option, Some, None, length, get_or, map, take, drop, All, unwrap_or, append-nil, arith}
use Rattle.std.specs.Prelude.{if◌then◌else◌, slice_index_or}
use Rattle.std.specs.List.{count_by}
use Rattle.std.specs.Option.{is_none, option_map_or}
use Rattle.std.proofs.lemmas.Bool.{cases_lt}
use Rattle.std.proofs.lemmas.List.{append_assoc, get_or_append_left, get_or_push, length-take, map-append}
use Rattle.std.proofs.lemmas.List.Elements.{All-cons, All-head, All-nil, All-tail, All-weaker}
use Rattle.std.proofs.lemmas.List.Sums.{sum_by_more}
use Rattle.std.proofs.lemmas.Option.{slice_get-get_or}
use Rattle.gp_certificate.specs.declared.step.Step.{Step}
use Rattle.gp_derivation.specs.Numbering.{with_hints}
use Rattle.gp_sharing.specs.declared.sizes.Sizes.{Sizes}
use Rattle.gp_sharing.specs.Moving.{are_movable, by_numbers, first_own, front_of, new_number, own_number, place_at, places_of, rests_on_earlier, staying}
use Rattle.gp_sharing.specs.FoundLaws.{both, is_not_less}
use Rattle.gp_sharing.specs.PlaceLaws.{hints_below, places_count, staying_all}

-- the first step stays or not, and then the others
first_stays : (places : List (Option ℕ)) (step : Step) (rest : List Step) → staying places (step ∷ rest) ≡ staying (place_at places 0 ∷ []) (step ∷ []) ++ staying (drop 1 places) rest
first_stays [] step rest = refl
first_stays (Some place ∷ places) step rest = refl
first_stays (None ∷ places) step rest = refl

-- so many steps were gone through
pub kept_more : (f : Step → Step) (places later : List (Option ℕ)) (left rest : List Step) (step : Step) (made next whole : List Step) (place : Option ℕ) → left ≡ step ∷ rest
    → place ≡ place_at places 0 → later ≡ drop 1 places → next ≡ made ++ map f (staying (place ∷ []) (step ∷ [])) → made ++ map f (staying places left) ≡ whole
    → next ++ map f (staying later rest) ≡ whole
kept_more f places later left rest step made next whole place is at passed adds all =
    let here = staying (place_at places 0 ∷ []) (step ∷ []) in
    (λ i. (adds ∙ ap (λ (o : Option ℕ). made ++ map f (staying (o ∷ []) (step ∷ []))) at) i ++ map f (staying (passed i) rest))
    ∙ append_assoc made (map f here) (map f (staying (drop 1 places) rest))
    ∙ ap (λ (xs : List Step). made ++ xs) (sym (map-append f here (staying (drop 1 places) rest)) ∙ sym (ap (map f) (ap (staying places) is ∙ first_stays places step rest)))
    ∙ all

stays_none : (places : List (Option ℕ)) → staying places [] ≡ []
stays_none [] = refl
stays_none (place ∷ places) = refl

-- until all were
pub all_kept : (f : Step → Step) (places : List (Option ℕ)) (left made whole : List Step) → left ≡ [] → made ++ map f (staying places left) ≡ whole → made ≡ whole
all_kept f places left made whole none all =
    sym (append-nil made) ∙ ap (λ (xs : List Step). made ++ map f xs) (sym (ap (staying places) none ∙ stays_none places)) ∙ all

-- the hints of steps that may move are below the number of the last
pub movable_hints : (number bound : ℕ) (steps : List Step) → are_movable number steps ≡ true → number + length steps ≤ bound + 1 → All (λ (step : Step). All (λ hint. hint < bound) step.hints) steps
movable_hints number bound [] movable most = All-nil (λ (step : Step). All (λ hint. hint < bound) step.hints)
movable_hints number bound (step ∷ steps) movable most =
    let parts = both (rests_on_earlier number step) (are_movable (number + 1) steps) movable in
    All-cons (λ (s : Step). All (λ hint. hint < bound) s.hints) step steps
    (All-weaker (λ hint. hint < number) (λ hint. hint < bound) (λ hint below. omega (arith, below, most)) step.hints (hints_below number step parts.0))
    (movable_hints (number + 1) bound steps parts.1 (omega (arith, most)))

hints_agree : (f g : ℕ → ℕ) (hints : List ℕ) → All (λ hint. f hint ≡ g hint) hints → map f hints ≡ map g hints
hints_agree f g [] all = refl
hints_agree f g (hint ∷ hints) all =
    λ i. (All-head (λ h. f h ≡ g h) hint hints all) i ∷ (hints_agree f g hints (All-tail (λ h. f h ≡ g h) hint hints all)) i

steps_agree : (f g : ℕ → ℕ) (steps : List Step) → All (λ (step : Step). All (λ hint. f hint ≡ g hint) step.hints) steps → map (with_hints f) steps ≡ map (with_hints g) steps
steps_agree f g [] all = refl
steps_agree f g (step ∷ steps) all =
    let here = hints_agree f g step.hints (All-head (λ (s : Step). All (λ hint. f hint ≡ g hint) s.hints) step steps all) in
    let rest = steps_agree f g steps (All-tail (λ (s : Step). All (λ hint. f hint ≡ g hint) s.hints) step steps all) in
    λ i. record { clause = step.clause; hints = here i } ∷ rest i

module _ (sizes : Sizes) (size : ℕ) (places : List (Option ℕ)) where
  -- so many numbers are listed
  abbrev pub AreListed : List ℕ → ℕ → Type 0
  AreListed numbers count = (own : ℕ) → own < count → slice_index_or numbers own 0 ≡ own_number sizes size places own

  -- one number more
  pub listed_more : (numbers : List ℕ) (i : ℕ) (place : Option ℕ) (next new : ℕ) → i < length places → length numbers ≡ i → place ≡ get_or places i place → next ≡ sizes.clauses + size + count_by is_none (take i places)
      → new ≡ option_map_or (λ at. sizes.clauses + at) place next → AreListed numbers i → AreListed (numbers ++ new ∷ []) (i + 1)
  listed_more numbers i place next new within count is counted made listed = λ own below. by own below (cases_lt own i)
    where
      by : (own : ℕ) → own < i + 1 → (own < i) ⊎ (i ≤ own) → slice_index_or (numbers ++ new ∷ []) own 0 ≡ own_number sizes size places own
      by own below (inl before) = get_or_append_left numbers (new ∷ []) 0 own (omega (arith, before, count)) ∙ listed own before
      by own below (inr after) =
          let same : i ≡ own = omega (arith, below, after) in
          let got : place_at places i ≡ place = ap (λ (o : Option (Option ℕ)). unwrap_or o None) (slice_get-get_or places i place within) ∙ sym is in
          let value : own_number sizes size places i ≡ option_map_or (λ at. sizes.clauses + at) place next =
          ap (λ (o : Option ℕ). option_map_or (λ at. sizes.clauses + at) o (sizes.clauses + size + count_by is_none (take i places))) got
          ∙ ap (λ (n : ℕ). option_map_or (λ at. sizes.clauses + at) place n) (sym counted) in
          subst (λ (n : ℕ). slice_index_or (numbers ++ new ∷ []) n 0 ≡ own_number sizes size places n) same (get_or_push numbers new 0 i count ∙ made ∙ sym value)

  pub counted_more : (i : ℕ) (place : Option ℕ) (next after : ℕ) → i < length places → place ≡ get_or places i place → next ≡ sizes.clauses + size + count_by is_none (take i places)
      → after ≡ next + (if is_none place then 1 else 0) → after ≡ sizes.clauses + size + count_by is_none (take (i + 1) places)
  counted_more i place next after within is counted made =
      let more : count_by is_none (take (i + 1) places) ≡ count_by is_none (take i places) + cond (is_none (get_or places i place)) 1 0 = sum_by_more (λ (o : Option ℕ). cond (is_none o) 1 0) places i place within in
      let here : ◌≡◌ {A = ℕ} (cond (is_none (get_or places i place)) 1 0) (cond (is_none place) 1 0) = ap (λ (o : Option ℕ). cond (is_none o) 1 0) (sym is) in
      omega (arith, counted, made, more, here)

  -- a listed number is the new number
  pub by_list : (numbers : List ℕ) → AreListed numbers (length places) → (hint : ℕ) → hint < first_own sizes + length places → by_numbers sizes numbers hint ≡ new_number sizes size places hint
  by_list numbers listed hint below = by (nat_lt hint (first_own sizes)) refl
    where
      by : (b : Bool) → nat_lt hint (first_own sizes) ≡ b → (if b then hint else slice_index_or numbers (hint - first_own sizes) 0) ≡ (if b then hint else own_number sizes size places (hint - first_own sizes))
      by true before = refl
      by false after = let past : first_own sizes ≤ hint = is_not_less hint (first_own sizes) after in listed (hint - first_own sizes) (omega (arith, past, below))

-- there is a place for each step but the last
pub places_size : (sizes : Sizes) (list steps : List Step) → length (places_of sizes list steps) ≡ length steps - 1
places_size sizes list steps = omega (arith, places_count sizes list [] (front_of steps), length-take (length steps - 1) steps)

-- the steps that stay are told by the new numbers
pub told_by_list : (sizes : Sizes) (size : ℕ) (places : List (Option ℕ)) (numbers : List ℕ) (steps : List Step) → are_movable (first_own sizes) steps ≡ true → length steps ≤ length places + 1
    → AreListed sizes size places numbers (length places) → map (with_hints (by_numbers sizes numbers)) (staying places steps) ≡ map (with_hints (new_number sizes size places)) (staying places steps)
told_by_list sizes size places numbers steps movable few listed =
    steps_agree (by_numbers sizes numbers) (new_number sizes size places) (staying places steps)
    (staying_all (λ (step : Step). All (λ hint. by_numbers sizes numbers hint ≡ new_number sizes size places hint) step.hints) places steps
    (All-weaker (λ (step : Step). All (λ hint. hint < first_own sizes + length places) step.hints) (λ (step : Step). All (λ hint. by_numbers sizes numbers hint ≡ new_number sizes size places hint) step.hints)
    (λ step below. All-weaker (λ hint. hint < first_own sizes + length places) (λ hint. by_numbers sizes numbers hint ≡ new_number sizes size places hint) (by_list sizes size places numbers listed) step.hints below)
    steps (movable_hints (first_own sizes) (first_own sizes + length places) steps movable (omega (arith, few)))))
