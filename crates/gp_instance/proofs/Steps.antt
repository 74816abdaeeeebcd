-- One more step of a walk over a list.
use Rattle.std.proofs.Common.{◌≡◌, refl, ap, ◌∙◌, sym, ℕ, zero, suc, ◌+◌, ◌<◌, ◌≤◌, ◌⊎◌, inl, inr, false, List, [], ◌∷◌, length, drop, get_or, arith}
use Rattle.std.specs.Prelude.{◌||◌, zip}
use Rattle.std.proofs.lemmas.List.{drop_all}
use Rattle.gp_window.specs.declared.schedule.EventId.{EventId}
use Rattle.gp_instance.specs.Matches.{begins_with_group, stands_together}

-- the rest of a schedule, where a group does not begin at its first place
pub later_place : (group schedule : List EventId) (start next : ℕ) → next ≡ start + 1 → start < length schedule
    → begins_with_group group (drop start schedule) ≡ false → stands_together group (drop next schedule) ≡ stands_together group (drop start schedule)
later_place group [] start next e below elsewhere = absurd (omega arith)
later_place group (first ∷ rest) start zero e below elsewhere = absurd (omega arith)
later_place group (first ∷ rest) zero (suc next) e below elsewhere =
    let start : next ≡ 0 = omega arith in
    ap (λ n. stands_together group (drop n rest)) start ∙ ap (λ b. b || stands_together group rest) (sym elsewhere)
later_place group (first ∷ rest) (suc start) (suc next) e below elsewhere = later_place group rest start next (omega arith) (omega arith) elsewhere

-- two lists from one place on
pub zip_at : {A B : Type 0} (xs : List A) (ys : List B) (i next : ℕ) (x : A) (y : B) → next ≡ i + 1 → i < length xs → i < length ys
    → zip (drop i xs) (drop i ys) ≡ (get_or xs i x, get_or ys i y) ∷ zip (drop next xs) (drop next ys)
zip_at [] ys i next x y e below within = absurd (omega arith)
zip_at (first ∷ xs) [] i next x y e below within = absurd (omega arith)
zip_at (first ∷ xs) (other ∷ ys) i zero x y e below within = absurd (omega arith)
zip_at (first ∷ xs) (other ∷ ys) zero (suc next) x y e below within =
    let start : next ≡ 0 = omega arith in
    ap (λ n. (first, other) ∷ zip (drop n xs) (drop n ys)) (sym start)
zip_at (first ∷ xs) (other ∷ ys) (suc i) (suc next) x y e below within = zip_at xs ys i next x y (omega arith) (omega arith) (omega arith)

-- no elements on the other side
zip_nil : {A B : Type 0} (xs : List A) → zip {X = B} xs [] ≡ []
zip_nil [] = refl
zip_nil (x ∷ xs) = refl

-- the end of the shorter of two lists
pub zip_past : {A B : Type 0} (xs : List A) (ys : List B) (i : ℕ) → (length xs ≤ i) ⊎ (length ys ≤ i) → zip (drop i xs) (drop i ys) ≡ []
zip_past xs ys i (inl past) = ap (λ rest. zip rest (drop i ys)) (drop_all i xs past)
zip_past xs ys i (inr past) = ap (λ rest. zip (drop i xs) rest) (drop_all i ys past) ∙ zip_nil (drop i xs)
