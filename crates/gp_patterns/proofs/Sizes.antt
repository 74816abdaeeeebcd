-- How many events a window has: those of its threads together.
use Rattle.std.proofs.Common.{◌≡◌, ◌<◌, ℕ, ◌+◌, refl, suc, List, [], ◌∷◌, drop, get_or, length, length-append, arith}
use Rattle.std.proofs.lemmas.List.{at_drop_more}
use Rattle.gp_constraint.specs.PointLaws.{size_in}
use Rattle.gp_constraint.specs.Points.{points_from, points_in}

abbrev pub size_all : {X : Type 0} → List (List X) → ℕ
size_all [] = 0
size_all (segment ∷ segments) = length segment + size_all segments

pub length_points : (thread number : ℕ) (segments : _) → length (points_from thread number segments) ≡ size_all segments
length_points thread number [] = refl
length_points thread number (segment ∷ segments) =
    let parts = length-append (points_in thread 0 number segment) (points_from (suc thread) (number + length segment) segments) in
    let one = size_in thread 0 number segment in
    let rest = length_points (suc thread) (number + length segment) segments in
    omega (arith, parts, one, rest)

-- where a segment has more events than are left to a limit, all have more than the limit
pub past_limit : {X : Type 0} (items : List (List X)) (i limit room : ℕ) (d : List X) → i < length items → room < length (get_or items i d) → limit + size_all (drop i items) ≡ room + size_all items → limit < size_all items
past_limit items i limit room d below past left =
    let one = at_drop_more size_all items i d below in
    omega (arith, one, past, left)
