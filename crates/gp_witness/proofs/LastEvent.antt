-- A schedule up to the last of some events, from its end.
use Rattle.std.proofs.Common.{◌≡◌, ◌-◌, ◌<◌, ℕ, zero, suc, Bool, true, false, List, [], ◌∷◌, ◌++◌, length, take, inl, inr, refl, sym, ap, ◌∙◌, arith}
use Rattle.std.specs.Prelude.{Some, None, slice_get, ◌||◌}
use Rattle.std.specs.List.{list_any}
use Rattle.std.proofs.lemmas.Bool.{cases_Bool}
use Rattle.gp_window.specs.declared.schedule.EventId.{EventId}
use Rattle.gp_window.specs.Ids.{contains_event}
use Rattle.gp_witness.specs.Witness.{up_to_last}

ends_at : (xs : List EventId) (n : ℕ) (last : EventId) → length xs ≡ suc n → slice_get xs n ≡ Some last → xs ≡ take n xs ++ last ∷ []
ends_at [] n last size e = absurd (omega (arith, size))
ends_at (x ∷ []) zero last size e = let same : x ≡ last = cc in ap (λ (y : EventId). y ∷ []) same
ends_at (x ∷ y ∷ xs) zero last size e = absurd (omega (arith, size))
ends_at (x ∷ xs) (suc n) last size e = ap (λ (ys : List EventId). x ∷ ys) (ends_at xs n last (omega (arith, size)) e)

-- a list, from its last element
ends_with : (xs : List EventId) (last : EventId) → slice_get xs (length xs - 1) ≡ Some last → xs ≡ take (length xs - 1) xs ++ last ∷ []
ends_with [] last e = cc
ends_with (x ∷ xs) last e = ends_at (x ∷ xs) (length (x ∷ xs) - 1) last (omega arith) e

not_none : (xs : List EventId) (n : ℕ) → n < length xs → slice_get xs n ≡ None → ⊥
not_none [] n within e = omega arith
not_none (x ∷ xs) zero within e = cc
not_none (x ∷ xs) (suc n) within e = not_none xs n (omega arith) e

any_last : (p : EventId → Bool) (xs : List EventId) (x : EventId) → p x ≡ true → list_any p (xs ++ x ∷ []) ≡ true
any_last p [] x passes = rw passes refl
any_last p (y ∷ xs) x passes =
    elim (cases_Bool (p y)) [
      | inl here ↦ rw here refl
      | inr other ↦ rw other (any_last p xs x passes)
    ]

any_front : (p : EventId → Bool) (xs : List EventId) (x : EventId) → p x ≡ false → list_any p (xs ++ x ∷ []) ≡ list_any p xs
any_front p [] x fails = rw fails refl
any_front p (y ∷ xs) x fails = ap (λ (b : Bool). p y || b) (any_front p xs x fails)

kept_last : (events xs : List EventId) (x : EventId) → contains_event events x ≡ true → up_to_last events (xs ++ x ∷ []) ≡ xs ++ x ∷ []
kept_last events [] x among = rw among refl
kept_last events (y ∷ xs) x among = rw (any_last (contains_event events) (y ∷ xs) x among, kept_last events xs x among) refl

cut_last : (events xs : List EventId) (x : EventId) → contains_event events x ≡ false → up_to_last events (xs ++ x ∷ []) ≡ up_to_last events xs
cut_last events [] x other = rw other refl
cut_last events (y ∷ xs) x other = rw (any_front (contains_event events) (y ∷ xs) x other, cut_last events xs x other) refl

-- a schedule that ends with one of the events is all that is to stay
pub all_stays : (events xs : List EventId) (last : EventId) → slice_get xs (length xs - 1) ≡ Some last → contains_event events last ≡ true → up_to_last events xs ≡ xs
all_stays events xs last e among =
    let ends = ends_with xs last e in
    ap (up_to_last events) ends ∙ kept_last events (take (length xs - 1) xs) last among ∙ sym ends

-- the last event of a schedule goes where it is none of the events
pub last_goes : (events xs ys : List EventId) (last : EventId) → slice_get xs (length xs - 1) ≡ Some last → ys ≡ take (length xs - 1) xs → contains_event events last ≡ false
    → up_to_last events ys ≡ up_to_last events xs
last_goes events xs ys last e is other =
    ap (up_to_last events) is ∙ sym (cut_last events (take (length xs - 1) xs) last other) ∙ ap (up_to_last events) (sym (ends_with xs last e))

-- a schedule with no last event is empty
pub none_last : (events xs : List EventId) → slice_get xs (length xs - 1) ≡ None → up_to_last events xs ≡ xs
none_last events [] e = refl
none_last events (x ∷ xs) e = absurd (not_none (x ∷ xs) (length (x ∷ xs) - 1) (omega arith) e)
