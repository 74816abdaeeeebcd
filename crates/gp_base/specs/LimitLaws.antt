-- Laws: what is found up to a limit, one part after another.
use Rattle.std.specs.Prelude.{ℕ, zero, suc, ◌+◌, ◌<◌, ◌≤◌, ◌≡◌, List, [], ◌∷◌, ◌++◌, length, take}
use Rattle.std.proofs.Common.{refl, ap, sym, ◌∙◌, append_assoc, length-append, arith}
use Rattle.std.proofs.lemmas.List.{append-nil, length-take, take_all, take-append-le}

-- what was found and then more, up to so many
unfoldable pub up_to : {X : Type 0} → ℕ → List X → List X → List X
up_to limit found more = take limit (found ++ more)

-- a front part of a front part
take_front : {X : Type 0} (n : ℕ) (xs ys : List X) → take n (take n xs ++ ys) ≡ take n (xs ++ ys)
take_front zero xs ys = refl
take_front (suc n) [] ys = refl
take_front (suc n) (x ∷ xs) ys = ap (λ rest. x ∷ rest) (take_front n xs ys)

-- nothing more is found where the limit is reached
pub up_to_full : {X : Type 0} (limit : ℕ) (found more : List X) → length found ≡ limit → found ≡ up_to limit found more
unfolding up_to
up_to_full limit found more full = sym (take-append-le limit found more (omega (arith, full)) ∙ take_all limit found (omega (arith, full)))

-- what is found is within the limit
pub up_to_within : {X : Type 0} (limit : ℕ) (found more : List X) → length (up_to limit found more) ≤ limit
unfolding up_to
up_to_within limit found more = omega (arith, length-take limit (found ++ more))

-- all of it is found where there is room, and if there is none, that is seen
pub up_to_room : {X : Type 0} (limit : ℕ) (found more : List X) → length found + length more ≤ limit → found ++ more ≡ up_to limit found more
unfolding up_to
up_to_room limit found more room = sym (take_all limit (found ++ more) (omega (arith, length-append found more, room)))

pub up_to_over : {X : Type 0} (limit few : ℕ) (found more : List X) → few < length (up_to limit found more) → few < length found + length more
unfolding up_to
up_to_over limit few found more over = omega (arith, over, length-take limit (found ++ more), length-append found more)

pub up_to_few : {X : Type 0} (limit : ℕ) (found more : List X) → length (up_to limit found more) < limit → length found + length more < limit
unfolding up_to
up_to_few limit found more few = omega (arith, few, length-take limit (found ++ more), length-append found more)

-- nothing more
pub up_to_none : {X : Type 0} (limit : ℕ) (found : List X) → length found ≤ limit → found ≡ up_to limit found []
unfolding up_to
up_to_none limit found within = sym (ap (take limit) (append-nil found) ∙ take_all limit found within)

-- more, and then the rest
pub up_to_then : {X : Type 0} (limit : ℕ) (found next more rest : List X) → next ≡ up_to limit found more → up_to limit next rest ≡ up_to limit found (more ++ rest)
unfolding up_to
up_to_then limit found next more rest is =
    ap (λ front. take limit (front ++ rest)) is ∙ take_front limit (found ++ more) rest ∙ ap (take limit) (append_assoc found more rest)
