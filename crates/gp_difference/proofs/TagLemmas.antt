use Rattle.std.proofs.Common.{◌≡◌, ℕ, ◌+◌, ◌<◌, List, [], ◌∷◌, ◌++◌, Option, Some, None, length, get_or, take, refl, ap, ◌∙◌}
use Rattle.std.specs.Option.{option_to_list}
use Rattle.std.proofs.lemmas.List.{take_more, map-append}
use Rattle.std.proofs.lemmas.List.Elements.{filter_map-append}
use Rattle.gp_difference.specs.declared.bound.Bound.{Bound}
use Rattle.gp_difference.specs.Bounds.{tags_of, no_bound}
use Rattle.gp_difference.specs.Lower.{walk_of}

one_tag : (bound : Bound) (tag : Option ℕ) → bound.tag ≡ tag → tags_of (bound ∷ []) ≡ option_to_list tag
one_tag bound None e = rw e refl
one_tag bound (Some tag) e = rw e refl

pub walk_of-push : (bounds : List Bound) (numbers : List ℕ) (number : ℕ) →
    walk_of bounds (numbers ++ number ∷ []) ≡ walk_of bounds numbers ++ get_or bounds number no_bound ∷ []
walk_of-push bounds numbers number = map-append (λ k. get_or bounds k no_bound) numbers (number ∷ [])

pub tags_of-push : (walk : List Bound) (bound : Bound) → tags_of (walk ++ bound ∷ []) ≡ tags_of walk ++ option_to_list bound.tag
tags_of-push walk bound =
    filter_map-append (λ (b : Bound). b.tag) walk (bound ∷ []) ∙ ap (λ ts. tags_of walk ++ ts) (one_tag bound bound.tag refl)

-- the tags of one more bound
pub tags_more : (bounds : List Bound) (walk : List ℕ) (i : ℕ) → i < length walk →
    tags_of (walk_of bounds (take (i + 1) walk)) ≡ tags_of (walk_of bounds (take i walk)) ++ option_to_list (get_or bounds (get_or walk i 0) no_bound).tag
tags_more bounds walk i lt =
    ap (λ ns. tags_of (walk_of bounds ns)) (take_more walk i 0 lt)
    ∙ ap tags_of (walk_of-push bounds (take i walk) (get_or walk i 0))
    ∙ tags_of-push (walk_of bounds (take i walk)) (get_or bounds (get_or walk i 0) no_bound)
