-- The row of truths follows that of the assignments.
use Rattle.std.proofs.Common.{◌≡◌, refl, sym, ◌∙◌, ap, ℕ, ◌<◌, zero, suc, Bool, true, false, Option, Some, None, List, [], ◌∷◌, ◌++◌, length, get_or, take, map, arith}
use Rattle.std.specs.Prelude.{option_map, replicate, slice_set}
use Rattle.std.proofs.lemmas.List.{length-map, map-append, map-set, take-map}
use Rattle.gp_sat.specs.declared.assigned.Assigned.{Assigned}
use Rattle.gp_sat.specs.declared.values.Truth.{Truth}
use Rattle.gp_sat.specs.declared.values.Truth.TheVariants.{Unknown}
use Rattle.gp_sat.specs.Truths.{known, truth_if, truth_of, AreTruths}

-- one variable is written
pub truths_set : (truths : List Truth) (values : List (Option Assigned)) (variable : ℕ) (value : Option Assigned) → AreTruths truths values → AreTruths (slice_set truths variable (truth_of value)) (slice_set values variable value)
truths_set truths values variable value same = ap (λ (ts : List Truth). slice_set ts variable (truth_of value)) same ∙ sym (map-set truth_of values variable value)

-- unassigned variables have no truth
truths_none : (count : ℕ) → AreTruths (replicate count Unknown) (replicate count None)
truths_none zero = refl
truths_none (suc count) = ap (λ (ts : List Truth). Unknown ∷ ts) (truths_none count)

-- unassigned variables are added
pub truths_more : (truths more : List Truth) (values longer : List (Option Assigned)) (count : ℕ) → more ≡ truths ++ replicate count Unknown → longer ≡ values ++ replicate count None → AreTruths truths values → AreTruths more longer
truths_more truths more values longer count more_is longer_is same =
    more_is ∙ ap (λ (ts : List Truth). ts ++ replicate count Unknown) same ∙ ap (λ (ts : List Truth). map truth_of values ++ ts) (truths_none count)
    ∙ sym (map-append truth_of values (replicate count None)) ∙ ap (λ (vs : List (Option Assigned)). map truth_of vs) (sym longer_is)

-- the first variables are left
pub truths_first : (truths less : List Truth) (values shorter : List (Option Assigned)) (count : ℕ) → less ≡ take count truths → shorter ≡ take count values → AreTruths truths values → AreTruths less shorter
truths_first truths less values shorter count less_is shorter_is same =
    less_is ∙ ap (λ (ts : List Truth). take count ts) same ∙ take-map truth_of count values ∙ ap (λ (vs : List (Option Assigned)). map truth_of vs) (sym shorter_is)

-- what is known of a variable
known_if : (positive : Bool) → known (truth_if positive) ≡ Some positive
known_if true = refl
known_if false = refl

known_of : (value : Option Assigned) → known (truth_of value) ≡ option_map (λ (a : Assigned). a.positive) value
known_of None = refl
known_of (Some a) = known_if a.positive

truth_at : (values : List (Option Assigned)) (variable : ℕ) → variable < length values → (truth : Truth) → truth ≡ get_or (map truth_of values) variable truth → truth ≡ truth_of (get_or values variable None)
truth_at [] variable below truth is = absurd (omega (arith, below))
truth_at (value ∷ values) zero below truth is = is
truth_at (value ∷ values) (suc variable) below truth is = truth_at values variable (omega (arith, below)) truth is

-- the truth that is read
pub truth_read : (truths : List Truth) (values : List (Option Assigned)) (variable : ℕ) (truth : Truth) → AreTruths truths values → variable < length truths → truth ≡ get_or truths variable truth
    → known truth ≡ option_map (λ (a : Assigned). a.positive) (get_or values variable None)
truth_read truths values variable truth same below is =
    let within : variable < length values = omega (arith, below, ap (λ (ts : List Truth). length ts) same, length-map values truth_of) in
    ap (λ (t : Truth). known t) (truth_at values variable within truth (is ∙ ap (λ (ts : List Truth). get_or ts variable truth) same)) ∙ known_of (get_or values variable None)
