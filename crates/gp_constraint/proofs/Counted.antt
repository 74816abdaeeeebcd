-- How many points a window has, and which numbers.
use Rattle.std.proofs.Common.{ℕ, zero, suc, ◌≡◌, ◌<◌, ◌≤◌, ◌+◌, ◌-◌, ap, sym, ◌∙◌, refl, List, [], ◌∷◌, ◌++◌, arith, length, length-append, append_assoc, get_or, drop}
use Rattle.std.specs.Prelude.{map, slice_get, unwrap_or}
use Rattle.std.proofs.lemmas.Bool.{ltb-true}
use Rattle.gp_trace.specs.declared.event.Event.{Event}
use Rattle.gp_window.specs.WindowForm.{WindowForm}
use Rattle.gp_constraint.specs.declared.point.Point.{Point}
use Rattle.gp_constraint.specs.Encoded.{IsSmall, size_at}
use Rattle.gp_constraint.specs.Points.{first_of, number_at, points_from, points_in, points_of, sizes_of}
use Rattle.gp_constraint.specs.PointLaws.{size_in}

-- how many events segments have together
abbrev pub size_all : List (List Event) → ℕ
size_all [] = 0
size_all (segment ∷ segments) = length segment + size_all segments

pub length_points : (thread number : ℕ) (segments : List (List Event)) → length (points_from thread number segments) ≡ size_all segments
length_points thread number [] = refl
length_points thread number (segment ∷ segments) =
    let parts = length-append (points_in thread 0 number segment) (points_from (suc thread) (number + length segment) segments) in
    let one = size_in thread 0 number segment in
    let rest = length_points (suc thread) (number + length segment) segments in
    omega (arith, parts, one, rest)

-- a segment has at most the points of all from it on
pub segment_fits : (segments : List (List Event)) (i : ℕ) (d : List Event) (thread number : ℕ) → i < length segments
    → length (get_or segments i d) ≤ length (points_from thread number (drop i segments))
segment_fits [] i d thread number below = absurd (omega (arith, below))
segment_fits (segment ∷ segments) zero d thread number below =
    let all = length_points thread number (segment ∷ segments) in
    omega (arith, all)
segment_fits (segment ∷ segments) (suc i) d thread number below = segment_fits segments i d thread number (omega (arith, below))

-- what is left begins with the next element
next_drop : {X : Type 0} (xs : List X) (i : ℕ) (d : X) → i < length xs → drop i xs ≡ get_or xs i d ∷ drop (suc i) xs
next_drop [] i d below = absurd (omega (arith, below))
next_drop (x ∷ xs) zero d below = refl
next_drop (x ∷ xs) (suc i) d below = next_drop xs i d (omega (arith, below))

-- one segment more
pub segment_more : (points new : List Point) (thread next : ℕ) (segments : List (List Event)) (i more : ℕ) (d : List Event) → i < length segments → more ≡ i + 1 → next ≡ thread + 1
    → new ≡ points ++ points_in thread 0 (length points) (get_or segments i d)
    → new ++ points_from next (length new) (drop more segments) ≡ points ++ points_from thread (length points) (drop i segments)
segment_more points new thread next segments i more d below m n is =
    let segment : List Event = get_or segments i d in
    let here : List Point = points_in thread 0 (length points) segment in
    let one : more ≡ suc i = omega (arith, m) in
    let up : next ≡ suc thread = omega (arith, n) in
    let whole = ap length is in
    let parts = length-append points here in
    let own = size_in thread 0 (length points) segment in
    let count : length new ≡ length points + length segment = omega (arith, whole, parts, own) in
    let rest : List Point = points_from (suc thread) (length points + length segment) (drop (suc i) segments) in
    let same : points_from next (length new) (drop more segments) ≡ rest =
    ap (λ (t : ℕ). points_from t (length new) (drop more segments)) up
    ∙ ap (λ (k : ℕ). points_from (suc thread) k (drop more segments)) count
    ∙ ap (λ (k : ℕ). points_from (suc thread) (length points + length segment) (drop k segments)) one in
    ap (λ ps. ps ++ points_from next (length new) (drop more segments)) is
    ∙ ap (λ ps. (points ++ here) ++ ps) same
    ∙ append_assoc points here rest
    ∙ ap (λ ss. points ++ points_from thread (length points) ss) (sym (next_drop segments i d below))

-- the numbers of the events of a thread end below the count of all
total_of : List ℕ → ℕ
total_of [] = 0
total_of (size ∷ sizes) = size + total_of sizes

first_below : (sizes : List ℕ) (place index : ℕ) → index < unwrap_or (slice_get sizes place) 0 → first_of sizes place + index < total_of sizes
unfolding total_of
first_below [] place index below = absurd (omega (arith, below))
first_below (size ∷ sizes) zero index below = omega (arith, below)
first_below (size ∷ sizes) (suc place) index below = let rest = first_below sizes place index below in omega (arith, rest)

total_sizes : (segments : List (List Event)) → total_of (map (λ segment. length segment) segments) ≡ size_all segments
unfolding total_of
total_sizes [] = refl
total_sizes (segment ∷ segments) = ap (λ n. length segment + n) (total_sizes segments)

small_at : (sizes : List ℕ) (thread index : ℕ) → index < size_at sizes thread → number_at sizes thread index < total_of sizes
small_at sizes zero index below = absurd (omega (arith, below))
small_at sizes (suc place) index below = first_below sizes place index below

-- the numbers of a window's events fit
pub sizes_small : (window : WindowForm) → length (points_of window) ≤ 2048 → IsSmall (sizes_of window)
sizes_small window few id there =
    let below = small_at (sizes_of window) id.thread id.index (ltb-true id.index (size_at (sizes_of window) id.thread) there) in
    let total = total_sizes window.segments in
    let count = length_points 1 0 window.segments in
    omega (arith, below, total, count, few)

-- how many events the first threads have: one thread more
pub first_next : (sizes : List ℕ) (i k : ℕ) (d : ℕ) → i < length sizes → first_of (drop i sizes) (suc k) ≡ get_or sizes i d + first_of (drop (suc i) sizes) k
first_next [] i k d below = absurd (omega (arith, below))
first_next (size ∷ sizes) zero k d below = refl
first_next (size ∷ sizes) (suc i) k d below = first_next sizes i k d (omega (arith, below))

pub first_step : (sizes : List ℕ) (i more n : ℕ) (d : ℕ) → i < length sizes → i < n → more ≡ i + 1
    → first_of (drop i sizes) (n - i) ≡ get_or sizes i d + first_of (drop more sizes) (n - more)
first_step sizes i more n d below left m =
    let k : ℕ = n - more in
    let one : n - i ≡ suc k = omega (arith, left, m) in
    let up : suc i ≡ more = omega (arith, m) in
    ap (first_of (drop i sizes)) one ∙ first_next sizes i k d below ∙ ap (λ (j : ℕ). get_or sizes i d + first_of (drop j sizes) k) up

-- past the last thread there are no events
pub first_past : (sizes : List ℕ) (i n : ℕ) → length sizes ≤ i → first_of (drop i sizes) n ≡ 0
first_past [] zero zero past = refl
first_past [] zero (suc n) past = refl
first_past [] (suc i) zero past = refl
first_past [] (suc i) (suc n) past = refl
first_past (size ∷ sizes) zero n past = absurd (omega (arith, past))
first_past (size ∷ sizes) (suc i) n past = first_past sizes i n (omega (arith, past))
