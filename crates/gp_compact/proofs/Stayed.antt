-- The new numbers of hints name the same clauses over the new shared list.
use Rattle.std.proofs.Common.{◌≡◌, refl, ap, sym, ◌∙◌, subst, ℕ, zero, suc, ◌+◌, ◌-◌, ◌<◌, ◌≤◌, ◌⊎◌, inl, inr, Bool, true, false, nat_lt, List, [], ◌∷◌, ◌++◌, Option, Some, length, map, take, drop, All, arith}
use Rattle.std.specs.List.{slice_get}
use Rattle.std.proofs.lemmas.Bool.{cases_lt}
use Rattle.std.proofs.lemmas.Bool.Decides.{nat_tests}
use Rattle.std.proofs.lemmas.List.{append-nil, append_assoc, length-append, length-drop, length-map, take-append-drop}
use Rattle.std.proofs.lemmas.List.Elements.{All-nil, All-cons, All-head, All-tail}
use Rattle.std.proofs.lemmas.Option.{slice_get_within, same_Some}
use Rattle.gp_clause.specs.declared.edge.Edge.{Edge}
use Rattle.gp_clause.specs.declared.kind.Kind.{Kind}
use Rattle.gp_clause.specs.declared.lit.Lit.{Lit}
use Rattle.gp_certificate.specs.declared.step.Step.{Step}
use Rattle.gp_certificate.specs.Certificate.{StepChecks, StepsCheck, clauses_of}
use Rattle.gp_base.specs.ListLaws.{slice_get_front}
use Rattle.gp_sharing.specs.declared.sizes.Sizes.{Sizes}
use Rattle.gp_sharing.specs.Moving.{first_own, front_of, new_number, own_number, place_of, places_after, places_of}
use Rattle.gp_compact.proofs.Gathered.{last_clause}
use Rattle.gp_compact.proofs.Renamed.{NamesSame, still_within}
use Rattle.gp_sharing.specs.GrownLaws.{BeginsWith}
use Rattle.gp_compact.proofs.Sized.{IsSized, front_over, front_same, own_follow, own_named, shared_named}
use Rattle.gp_sharing.specs.FoundLaws.{is_less, is_not_less}

-- what holds of each element of a list that was made holds of what it was made of
pub all_unmapped : (P : ℕ → Type 0) (f : ℕ → ℕ) (hints : List ℕ) → All P (map f hints) → All (λ hint. P (f hint)) hints
all_unmapped P f [] all = All-nil (λ hint. P (f hint))
all_unmapped P f (hint ∷ hints) all =
    All-cons (λ h. P (f h)) hint hints (All-head P (f hint) (map f hints) all) (all_unmapped P f hints (All-tail P (f hint) (map f hints) all))

-- a step of a list that checks does so after those before it
pub checks_at : (edges : List Edge) (kinds : List Kind) (earlier : List (List Lit)) (list : List Step) (place : ℕ) (step : Step) → StepsCheck edges kinds earlier list → slice_get list place ≡ Some step
    → StepChecks edges kinds (earlier ++ clauses_of (take place list)) step
checks_at edges kinds earlier [] place step checks at = absurd (let within : place < 0 = slice_get_within [] place step at in omega arith)
checks_at edges kinds earlier (first ∷ list) zero step checks at =
    subst (StepChecks edges kinds (earlier ++ [])) (same_Some first step at) (subst (λ (cs : List (List Lit)). StepChecks edges kinds cs first) (sym (append-nil earlier)) checks.0)
checks_at edges kinds earlier (first ∷ list) (suc place) step checks at =
    let same : earlier ++ first.clause ∷ [] ++ clauses_of (take place list) ≡ earlier ++ (first.clause ∷ clauses_of (take place list)) = append_assoc earlier (first.clause ∷ []) (clauses_of (take place list)) in
    subst (λ (cs : List (List Lit)). StepChecks edges kinds cs step) same (checks_at edges kinds (earlier ++ first.clause ∷ []) list place step checks.1 at)

-- these are the places of the steps after some others, and at most one step has none
abbrev pub ArePlaces : Sizes → List Step → List (Option ℕ) → List (Option ℕ) → List Step → Type 0
ArePlaces sizes list before [] steps = length steps ≤ 1
ArePlaces sizes list before (place ∷ rest) [] = ⊥
ArePlaces sizes list before (place ∷ rest) (step ∷ steps) = (place ≡ place_of sizes list before step) × ArePlaces sizes list (before ++ place ∷ []) rest steps

-- the places of a certificate's steps are such
places_are : (sizes : Sizes) (list : List Step) (before : List (Option ℕ)) (front last : List Step) → length last ≤ 1
    → (rest : List (Option ℕ)) × (places_after sizes list before front ≡ before ++ rest) × ArePlaces sizes list before rest (front ++ last)
places_are sizes list before [] last one = ([], sym (append-nil before), one)
places_are sizes list before (step ∷ front) last one =
    let place = place_of sizes list before step in
    let rest = places_are sizes list (before ++ place ∷ []) front last one in
    (place ∷ rest.0, rest.1 ∙ append_assoc before (place ∷ []) rest.0, (refl, rest.2))

pub certificate_places : (sizes : Sizes) (list steps : List Step) → ArePlaces sizes list [] (places_of sizes list steps) steps
certificate_places sizes list steps =
    let last = drop (length steps - 1) steps in
    let one : length last ≤ 1 = omega (arith, length-drop (length steps - 1) steps) in
    let are = places_are sizes list [] (front_of steps) last one in
    let whole : front_of steps ++ last ≡ steps = take-append-drop (length steps - 1) steps in
    subst (λ (places : List (Option ℕ)). ArePlaces sizes list [] places steps) (sym are.1) (subst (ArePlaces sizes list [] are.0) whole are.2)

module _ (kinds : List Kind) (base : List (List Lit)) (old : List Step) (sizes : Sizes) (is : IsSized kinds base old sizes) (list : List Step) (begins : BeginsWith old list) (places : List (Option ℕ)) where
  abbrev number : ℕ → ℕ
  number = new_number sizes (length list) places

  -- all hints up to the next own step name the same by their new numbers
  abbrev pub AreRenumbered : List (List Lit) → List (List Lit) → Type 0
  AreRenumbered own kept = (hint : ℕ) → hint < first_own sizes + length own → NamesSame (base ++ clauses_of old ++ own) (base ++ clauses_of list ++ kept) (new_number sizes (length list) places) hint

  number_before : (hint : ℕ) → nat_lt hint (first_own sizes) ≡ true → number hint ≡ hint
  number_before hint before = rw before refl

  number_after : (hint : ℕ) → nat_lt hint (first_own sizes) ≡ false → number hint ≡ own_number sizes (length list) places (hint - first_own sizes)
  number_after hint after = rw after refl

  -- at first these are base clauses and shared steps
  pub first_renumbered : AreRenumbered [] []
  first_renumbered hint below = by (nat_lt hint (first_own sizes)) refl
    where
      by : (b : Bool) → nat_lt hint (first_own sizes) ≡ b → NamesSame (base ++ clauses_of old ++ []) (base ++ clauses_of list ++ []) (new_number sizes (length list) places) hint
      by true before =
          let less : hint < first_own sizes = is_less hint (first_own sizes) before in
          record {
            within = omega (arith, less, own_follow kinds base old sizes is, length-append (base ++ clauses_of old) []);
            same = ap (λ (n : ℕ). slice_get (base ++ clauses_of list ++ []) n) (number_before hint before) ∙ front_over kinds base old sizes is list begins [] hint less ∙ sym (front_same kinds base old sizes is [] hint less);
          }
      by false after = absurd (let past : first_own sizes ≤ hint = is_not_less hint (first_own sizes) after in omega (arith, past, below))

  -- one own step more
  module _ (own kept : List (List Lit)) (clause : List Lit) (renumbered : AreRenumbered own kept) where
    first_list : List (List Lit)
    first_list = base ++ clauses_of old ++ own

    longer : base ++ clauses_of old ++ (own ++ clause ∷ []) ≡ base ++ clauses_of old ++ own ++ clause ∷ []
    longer = sym (append_assoc (base ++ clauses_of old) own (clause ∷ []))

    size : length (base ++ clauses_of old ++ (own ++ clause ∷ [])) ≡ first_own sizes + length own + 1
    size = omega (arith, own_follow kinds base old sizes is, length-append (base ++ clauses_of old) (own ++ clause ∷ []), length-append own (clause ∷ []))

    own_clause : (hint : ℕ) → hint ≡ first_own sizes + length own → slice_get (base ++ clauses_of old ++ (own ++ clause ∷ [])) hint ≡ Some clause
    own_clause hint at =
        let past : first_own sizes ≤ hint = omega (arith, at) in
        own_named kinds base old sizes is (own ++ clause ∷ []) hint past ∙ last_clause own clause (hint - first_own sizes) (omega (arith, at))

    earlier_same : (hint : ℕ) → hint < first_own sizes + length own → slice_get (base ++ clauses_of old ++ (own ++ clause ∷ [])) hint ≡ slice_get (base ++ clauses_of old ++ own) hint
    earlier_same hint below =
        ap (λ (cs : List (List Lit)). slice_get cs hint) longer
        ∙ slice_get_front (base ++ clauses_of old ++ own) (clause ∷ []) hint (omega (arith, below, own_follow kinds base old sizes is, length-append (base ++ clauses_of old) own))

    -- where it moved, its number is that of its place
    pub moved_renumbered : (place : ℕ) → place < length list → slice_get (clauses_of list) place ≡ Some clause → own_number sizes (length list) places (length own) ≡ sizes.clauses + place → AreRenumbered (own ++ clause ∷ []) kept
    moved_renumbered place within at named_by hint below = by (cases_lt hint (first_own sizes + length own))
      where
        by : (hint < first_own sizes + length own) ⊎ (first_own sizes + length own ≤ hint) → NamesSame (base ++ clauses_of old ++ (own ++ clause ∷ [])) (base ++ clauses_of list ++ kept) (new_number sizes (length list) places) hint
        by (inl before) = let earlier = renumbered hint before in record { within = omega (arith, before, size); same = earlier.same ∙ sym (earlier_same hint before) }
        by (inr after) =
            let last : hint ≡ first_own sizes + length own = omega (arith, after, below, length-append own (clause ∷ [])) in
            let place_is : hint - first_own sizes ≡ length own = omega (arith, last) in
            let past : nat_lt hint (first_own sizes) ≡ false = grind (arith, nat_tests) in
            let new : number hint ≡ sizes.clauses + place = number_after hint past ∙ ap (own_number sizes (length list) places) place_is ∙ named_by in
            record {
              within = omega (arith, last, size);
              same = ap (λ (n : ℕ). slice_get (base ++ clauses_of list ++ kept) n) new ∙ shared_named kinds base old sizes is list kept place within ∙ at ∙ sym (own_clause hint last);
            }

    -- where it stays, its number is the next one
    pub stayed_renumbered : own_number sizes (length list) places (length own) ≡ sizes.clauses + length list + length kept → AreRenumbered (own ++ clause ∷ []) (kept ++ clause ∷ [])
    stayed_renumbered named_by hint below = by (cases_lt hint (first_own sizes + length own))
      where
        second : List (List Lit)
        second = base ++ clauses_of list ++ kept

        whole : base ++ clauses_of list ++ (kept ++ clause ∷ []) ≡ base ++ clauses_of list ++ kept ++ clause ∷ []
        whole = sym (append_assoc (base ++ clauses_of list) kept (clause ∷ []))

        by : (hint < first_own sizes + length own) ⊎ (first_own sizes + length own ≤ hint)
            → NamesSame (base ++ clauses_of old ++ (own ++ clause ∷ [])) (base ++ clauses_of list ++ (kept ++ clause ∷ [])) (new_number sizes (length list) places) hint
        by (inl before) =
            let earlier = renumbered hint before in
            let there : number hint < length (base ++ clauses_of list ++ kept) = still_within (base ++ clauses_of old ++ own) (base ++ clauses_of list ++ kept) (new_number sizes (length list) places) hint earlier in
            record {
              within = omega (arith, before, size);
              same = ap (λ (cs : List (List Lit)). slice_get cs (number hint)) whole ∙ slice_get_front (base ++ clauses_of list ++ kept) (clause ∷ []) (number hint) there ∙ earlier.same ∙ sym (earlier_same hint before);
            }
        by (inr after) =
            let last : hint ≡ first_own sizes + length own = omega (arith, after, below, length-append own (clause ∷ [])) in
            let place_is : hint - first_own sizes ≡ length own = omega (arith, last) in
            let past : nat_lt hint (first_own sizes) ≡ false = grind (arith, nat_tests) in
            let new : number hint ≡ sizes.clauses + length list + length kept = number_after hint past ∙ ap (own_number sizes (length list) places) place_is ∙ named_by in
            let end : length (base ++ clauses_of list ++ kept) ≡ sizes.clauses + length list + length kept =
            omega (arith, is.clauses, length-append (base ++ clauses_of list) kept, length-append base (clauses_of list), length-map list (λ (step : Step). step.clause)) in
            record {
              within = omega (arith, last, size);
              same = ap (λ (n : ℕ). slice_get (base ++ clauses_of list ++ (kept ++ clause ∷ [])) n) new ∙ ap (λ (cs : List (List Lit)). slice_get cs (sizes.clauses + length list + length kept)) whole
                  ∙ last_clause (base ++ clauses_of list ++ kept) clause (sizes.clauses + length list + length kept) (sym end) ∙ sym (own_clause hint last);
            }
