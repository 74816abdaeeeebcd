-- Laws: the places of own steps, the steps that stay, and the hints of steps that may move.
use Rattle.std.proofs.Common.{◌≡◌, ap, subst, ℕ, ◌+◌, ◌<◌, ◌≤◌, ◌==◌, true, not, nat_lt, List, [], ◌∷◌, ◌++◌, Option, Some, None, length, All, unwrap_or, arith}
use Rattle.std.specs.List.{list_all, slice_get}
use Rattle.std.proofs.lemmas.List.{length-append}
use Rattle.std.proofs.lemmas.List.Elements.{All-cons, All-head, All-nil, All-tail, All-weaker}
use Rattle.std.proofs.lemmas.Option.{slice_get_past}
use Rattle.gp_base.specs.ListLaws.{slice_get_back, slice_get_front}
use Rattle.gp_certificate.specs.declared.step.Step.{Step}
use Rattle.gp_sharing.specs.declared.sizes.Sizes.{Sizes}
use Rattle.gp_sharing.specs.FoundLaws.{both, each_passes, is_less}
use Rattle.gp_sharing.specs.Moving.{place_at, place_of, places_after, rests_on_earlier, staying}

-- a place among places with one more
pub place_before : (places : List (Option ℕ)) (last : Option ℕ) (k : ℕ) → k < length places → place_at (places ++ last ∷ []) k ≡ place_at places k
place_before places last k within = ap (λ (o : Option (Option ℕ)). unwrap_or o None) (slice_get_front places (last ∷ []) k within)

pub place_last : (places : List (Option ℕ)) (last : Option ℕ) → place_at (places ++ last ∷ []) (length places) ≡ last
place_last places last =
    let at : slice_get (places ++ last ∷ []) (length places + 0) ≡ Some last = slice_get_back places (last ∷ []) 0 in
    let same : length places + 0 ≡ length places = omega arith in
    ap (λ (o : Option (Option ℕ)). unwrap_or o None) (subst (λ (n : ℕ). slice_get (places ++ last ∷ []) n ≡ Some last) same at)

pub place_past : (places : List (Option ℕ)) (k : ℕ) → length places ≤ k → place_at places k ≡ None
place_past places k past = ap (λ (o : Option (Option ℕ)). unwrap_or o None) (slice_get_past places k past)

-- there is a place for each step
pub places_count : (sizes : Sizes) (list : List Step) (before : List (Option ℕ)) (steps : List Step) → length (places_after sizes list before steps) ≡ length before + length steps
places_count sizes list before [] = omega arith
places_count sizes list before (step ∷ steps) =
    omega (arith, places_count sizes list (before ++ place_of sizes list before step ∷ []) steps, length-append before (place_of sizes list before step ∷ []))

-- what holds of each step holds of each that stays
pub staying_all : (P : Step → Type 0) (places : List (Option ℕ)) (steps : List Step) → All P steps → All P (staying places steps)
staying_all P [] steps all = all
staying_all P (place ∷ places) [] all = All-nil P
staying_all P (Some place ∷ places) (step ∷ steps) all = staying_all P places steps (All-tail P step steps all)
staying_all P (None ∷ places) (step ∷ steps) all = All-cons P step (staying places steps) (All-head P step steps all) (staying_all P places steps (All-tail P step steps all))

-- the hints of a step that rests on earlier ones are below its number
pub hints_below : (number : ℕ) (step : Step) → rests_on_earlier number step ≡ true → All (λ hint. hint < number) step.hints
hints_below number step rests =
    All-weaker (λ hint. nat_lt hint number ≡ true) (λ hint. hint < number) (λ hint h. is_less hint number h) step.hints
    (each_passes (λ hint. nat_lt hint number) step.hints (both (not (length step.hints == 0)) (list_all (λ hint. nat_lt hint number) step.hints) rests).1)
