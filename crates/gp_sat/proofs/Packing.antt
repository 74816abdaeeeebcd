-- The slots that eight bytes hold.
use Rattle.std.proofs.Common.{◌≡◌, sym, ◌∙◌, ap, ℕ, ◌+◌, ◌-◌, ◌*◌, ◌/◌, ◌%◌, true, false, Bool, List, map, arith}
use Rattle.std.specs.Prelude.{slice_set, ◌==◌}
use Rattle.std.proofs.lemmas.Bool.{eq-eqb, ne_eqb}
use Rattle.std.proofs.lemmas.List.{map-set}
use Rattle.gp_clause.specs.declared.lit.Lit.{Lit}
use Rattle.gp_sat.specs.declared.watches.Packed.{Packed}
use Rattle.gp_sat.specs.Slot.{Slot}
use Rattle.gp_sat.specs.WatchesForm.{WatchesForm, opened}
use Rattle.gp_sat.specs.Watching.{code, sign_of, link_at}
use Rattle.gp_sat.specs.Linked.{at_front}

-- half of the number of a literal is its variable
variable_is : (variable : ℕ) (positive : Bool) → (2 * variable + 2 + sign_of positive - 2) / 2 ≡ variable
variable_is variable true = omega arith
variable_is variable false = omega arith

-- and it is odd where the literal is positive
sign_is : (variable : ℕ) (positive : Bool) → (2 * variable + 2 + sign_of positive - 2) % 2 == 1 ≡ positive
sign_is variable true = eq-eqb ((2 * variable + 2 + 1 - 2) % 2) 1 (omega arith)
sign_is variable false = ne_eqb ((2 * variable + 2 + 0 - 2) % 2) 1 (λ odd. omega arith)

-- a literal is opened as it was packed
opened_packed : (lit : Lit) (next place : ℕ) → place ≡ code lit → opened (record { lit = place - 2; next = next }) ≡ record { lit = lit; next = next }
opened_packed lit next place is =
    ap (λ (n : ℕ). opened (record { lit = n - 2; next = next })) is
    ∙ λ i. record { lit = record { variable = variable_is lit.variable lit.positive i; positive = sign_is lit.variable lit.positive i }; next = next }

-- a slot is linked to the front of a list
pub packed_front : (w : WatchesForm) (slots : List Packed) (slot place next : ℕ) (lit : Lit) → w.slots ≡ map opened slots → place ≡ code lit → next ≡ link_at w.heads place
    → record w { heads = slice_set w.heads place (slot + 1); slots = map opened (slice_set slots slot (record { lit = place - 2; next = next })) } ≡ at_front w slot lit
packed_front w slots slot place next lit slots_are is next_is = λ i. record w { heads = slice_set w.heads (is i) (slot + 1); slots = written i }
  where
    written : map opened (slice_set slots slot (record { lit = place - 2; next = next })) ≡ slice_set w.slots slot (record { lit = lit; next = link_at w.heads (code lit) })
    written = map-set opened slots slot (record { lit = place - 2; next = next })
        ∙ ap (λ (x : Slot). slice_set (map opened slots) slot x) (opened_packed lit next place is)
        ∙ ap (λ (xs : List Slot). slice_set xs slot (record { lit = lit; next = next })) (sym slots_are)
        ∙ ap (λ (n : ℕ). slice_set w.slots slot (record { lit = lit; next = n })) (next_is ∙ ap (link_at w.heads) is)
