-- One more parameter that is bound.
use Rattle.std.proofs.Common.{◌≡◌, refl, ap, ◌∙◌, sym, ℕ, zero, suc, ◌+◌, ◌<◌, ◌≤◌, ◌⊎◌, inl, inr, min, arith, List, ◌++◌, length, drop, get_or, append_assoc}
use Rattle.std.specs.List.{flat_map}
use Rattle.std.proofs.lemmas.List.{append-nil}
use Rattle.gp_property.specs.declared.property.Term.{Term}
use Rattle.gp_instance.specs.Shape.{binding_of, bindings_in}
use Rattle.gp_instance.proofs.Steps.{zip_at, zip_past}

-- the binding at a place, and those behind it
pub bound_at : (terms : List Term) (names : List (List ℕ)) (i : ℕ) (term : Term) (name : List ℕ) (before after : List (List ℕ × List ℕ))
    → i < length terms → i < length names → term ≡ get_or terms i term → name ≡ get_or names i name
    → after ≡ before ++ binding_of (term, name)
    → after ++ bindings_in (drop (i + 1) terms) (drop (i + 1) names) ≡ before ++ bindings_in (drop i terms) (drop i names)
bound_at terms names i term name before after below within is_term is_name more =
    let rest = bindings_in (drop (i + 1) terms) (drop (i + 1) names) in
    ap (λ bindings. bindings ++ rest) more
    ∙ append_assoc before (binding_of (term, name)) rest
    ∙ ap (λ (t : Term). before ++ (binding_of (t, name) ++ rest)) is_term
    ∙ ap (λ (n : List ℕ). before ++ (binding_of (get_or terms i term, n) ++ rest)) is_name
    ∙ ap (λ pairs. before ++ flat_map binding_of pairs) (sym (zip_at terms names i (i + 1) term name refl below within))

-- past the lesser of two numbers
past_one : (a b i : ℕ) → min a b ≤ i → (a ≤ i) ⊎ (b ≤ i)
past_one zero b i past = inl (omega arith)
past_one (suc a) zero i past = inr (omega arith)
past_one (suc a) (suc b) zero past = absurd (omega arith)
past_one (suc a) (suc b) (suc i) past = elim (past_one a b i (omega arith)) [ inl h ↦ inl (omega (arith, h)) | inr h ↦ inr (omega (arith, h)) ]

-- no binding stands behind the last
pub all_bound : (terms : List Term) (names : List (List ℕ)) (i : ℕ) (bindings : List (List ℕ × List ℕ))
    → min (length terms) (length names) ≤ i → bindings ++ bindings_in (drop i terms) (drop i names) ≡ bindings
all_bound terms names i bindings past =
    ap (λ pairs. bindings ++ flat_map binding_of pairs) (zip_past terms names i (past_one (length terms) (length names) i past)) ∙ append-nil bindings
