use Rattle.std.proofs.Common.{◌≡◌, ◌≢◌, ℕ, ◌+◌, ◌*◌, ◌<◌, ◌≤◌, ◌⊎◌, inl, inr, suc, zero, List, [], ◌∷◌, ◌++◌, length, cond, not, true, false, ◌==◌, get_or, set, zip, sum_by, replicate, refl, ap, arith, eq-eqb, ℤ, pos, ◌≤ℤ◌, ◌<ℤ◌}
use Rattle.std.proofs.lemmas.Bool.{ne_eqb}
use Rattle.std.proofs.lemmas.Int.{ints}
use Rattle.std.proofs.lemmas.List.Folds.{sum_by-replicate}
use Rattle.std.proofs.lemmas.List.Sums.{get_or-le-sum_by, sum_by-cons, sum_by-set}
use Rattle.std.proofs.lemmas.Slice.Zip.{get_or-zip, length-zip}
use Rattle.std.specs.Int.Signed.{lt_z}
use Rattle.gp_difference.specs.Places.{place_at}
use Rattle.gp_difference.specs.Lower.{still_count, open_count}

pub lt_z_true : (a b : ℤ) → a <ℤ b → lt_z a b ≡ true
lt_z_true a b h = grind (arith, ints)

pub lt_z_false : (a b : ℤ) → b ≤ℤ a → lt_z a b ≡ false
lt_z_false a b h = grind (arith, ints)

-- a list beside another whose element changes
zip_set : {X Y : Type 0} (xs : List X) (ys : List Y) (k : ℕ) (d : X) (y : Y) → k < length xs → zip xs (set ys k y) ≡ set (zip xs ys) k (get_or xs k d, y)
zip_set [] ys k d y within = absurd (omega arith)
zip_set (x ∷ xs) [] k d y within = refl
zip_set (x ∷ xs) (z ∷ ys) zero d y within = refl
zip_set (x ∷ xs) (z ∷ ys) (suc k) d y within = ap (λ rest. (x, z) ∷ rest) (zip_set xs ys k d y (omega arith))

-- whether a point counts whose old place and whose label are these
abbrev stays : ℤ × ℤ → ℕ
stays pair = cond (not (lt_z pair.1 pair.0)) 1 0

-- one label changes, and the count by what its point counts
still_set : (places labels : List ℤ) (t : ℕ) (x : ℤ) → length labels ≡ length places → t < length places →
    still_count places (set labels t x) + stays (place_at places t, place_at labels t) ≡ still_count places labels + stays (place_at places t, x)
still_set places labels t x size t_in =
    let within : t < length (zip places labels) = omega (arith, length-zip places labels, size, t_in) in
    let pairs : still_count places (set labels t x) ≡ sum_by stays (set (zip places labels) t (place_at places t, x)) =
    ap (sum_by stays) (zip_set places labels t (pos 0) x t_in) in
    let old : stays (get_or (zip places labels) t (pos 0, pos 0)) ≡ stays (place_at places t, place_at labels t) =
    ap stays (get_or-zip places labels t (pos 0, pos 0) t_in (omega (arith, size, t_in))) in
    omega (arith, pairs, old, sum_by-set stays (zip places labels) t (place_at places t, x) (pos 0, pos 0) within)

-- a point that fell already is counted as before
pub still_fell : (places labels : List ℤ) (t : ℕ) (x : ℤ) → length labels ≡ length places → t < length places →
    place_at labels t <ℤ place_at places t → x <ℤ place_at places t → still_count places (set labels t x) ≡ still_count places labels
still_fell places labels t x size t_in h k =
    let one : still_count places (set labels t x) + 0 ≡ still_count places labels + 0 =
    rw (lt_z_true (place_at labels t) (place_at places t) h, lt_z_true x (place_at places t) k) at (still_set places labels t x size t_in) in
    omega (arith, one)

-- a point that falls is counted no more
pub still_falls : (places labels : List ℤ) (t : ℕ) (x : ℤ) → length labels ≡ length places → t < length places →
    place_at places t ≤ℤ place_at labels t → x <ℤ place_at places t →
    still_count places (set labels t x) + 1 ≡ still_count places labels
still_falls places labels t x size t_in h k =
    let one : still_count places (set labels t x) + 1 ≡ still_count places labels + 0 =
    rw (lt_z_false (place_at labels t) (place_at places t) h, lt_z_true x (place_at places t) k) at (still_set places labels t x size t_in) in
    omega (arith, one)

-- a point that stands still is counted
pub still_one : (places labels : List ℤ) (t : ℕ) → length labels ≡ length places → t < length places →
    place_at places t ≤ℤ place_at labels t → 1 ≤ still_count places labels
still_one places labels t size t_in h =
    let within : t < length (zip places labels) = omega (arith, length-zip places labels, size, t_in) in
    rw (get_or-zip places labels t (pos 0, pos 0) t_in (omega (arith, size, t_in)), lt_z_false (place_at labels t) (place_at places t) h)
    at (get_or-le-sum_by stays (zip places labels) t (pos 0, pos 0) within)

-- where no point fell all are counted
pub still_all : (places : List ℤ) → still_count places places ≡ length places
still_all [] = refl
still_all (p ∷ ps) =
    let first : stays (p, p) ≡ 1 = rw (lt_z_false p p (omega (arith, ints))) refl in
    omega (arith, sum_by-cons stays (p, p) (zip ps ps), first, still_all ps)

-- an element of a longer list is one of the list or the last
pub push_read : {X : Type 0} (xs : List X) (y : X) (k : ℕ) (d : X) → k < length xs + 1 →
    ((k < length xs) × (get_or (xs ++ y ∷ []) k d ≡ get_or xs k d)) ⊎ ((k ≡ length xs) × (get_or (xs ++ y ∷ []) k d ≡ y))
push_read [] y zero d lt = inr (refl, refl)
push_read [] y (suc k) d lt = absurd (omega arith)
push_read (x ∷ xs) y zero d lt = inl (omega arith, refl)
push_read (x ∷ xs) y (suc k) d lt =
    elim (push_read xs y k d (omega arith)) [ inl h ↦ inl (omega (arith, h.0), h.1) | inr h ↦ inr (ap suc h.0, h.1) ]

-- whether an open point counts, by its rank
abbrev is_open : ℕ → ℕ → ℕ
is_open n rank = cond (rank == n) 1 0

-- an open point is counted
pub open_one : (n : ℕ) (ranks : List ℕ) (v : ℕ) → v < length ranks → get_or ranks v 0 ≡ n → 1 ≤ open_count n ranks
open_one n ranks v lt e = rw (eq-eqb (get_or ranks v 0) n e) at (get_or-le-sum_by (is_open n) ranks v 0 lt)

-- an open point that is settled is counted no more
pub open_falls : (n : ℕ) (ranks : List ℕ) (v rank : ℕ) → v < length ranks → get_or ranks v 0 ≡ n → rank ≢ n →
    open_count n (set ranks v rank) + 1 ≡ open_count n ranks
open_falls n ranks v rank lt e other =
    let one : open_count n (set ranks v rank) + 1 ≡ open_count n ranks + 0 =
    rw (eq-eqb (get_or ranks v 0) n e, ne_eqb rank n other) at (sum_by-set (is_open n) ranks v rank 0 lt) in
    omega (arith, one)

-- at first all points are open
pub open_all : (n m : ℕ) → open_count n (replicate m n) ≡ m
open_all n m =
    let all : open_count n (replicate m n) ≡ m * 1 = rw (eq-eqb n n refl) at (sum_by-replicate (is_open n) m n) in
    omega (arith, all)
