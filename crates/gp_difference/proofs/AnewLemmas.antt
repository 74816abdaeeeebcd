use Rattle.std.proofs.Common.{◌≡◌, ℕ, ◌+◌, ◌^◌, ◌<◌, ◌≤◌, ◌⊎◌, inl, inr, List, length, cond, set, Some, None, ◌∙◌, arith, ℤ, pos, ◌+ℤ◌, ◌-ℤ◌, ◌≤ℤ◌, ◌<ℤ◌}
use Rattle.std.specs.Int.{int_min}
use Rattle.std.specs.Int.Signed.{lt_z}
use Rattle.std.proofs.lemmas.Int.{ints, clamps, by_lt_z}
use Rattle.std.proofs.lemmas.List.Elements.{All-from_get_or}
use Rattle.std.proofs.lemmas.List.Sums.{count_by-le-length, sum_by-le-sum_by, sum_by-set}
use Rattle.gp_difference.specs.Places.{place_at}
use Rattle.gp_difference.specs.Anew.{below_count, IsNextBelow, AreSpaced, IsLevelled, AreSqueezed, KeepsLike, AreAnew}
use Rattle.gp_difference.proofs.CountLemmas.{lt_z_true, lt_z_false}

-- whether a place counts that is below a value
abbrev counts_below : ℤ → ℤ → ℕ
counts_below value place = cond (lt_z place value) 1 0

-- a place that counts below a value counts below a higher one
below_higher : (next value place : ℤ) → next <ℤ value → counts_below next place ≤ counts_below value place
below_higher next value place lt =
    by_lt_z place next
    (λ a. rw (lt_z_true place next a, lt_z_true place value (omega (arith, ints, a, lt))) (omega arith))
    (λ a. rw (lt_z_false place next a) (omega arith))

-- fewer places are below a place that is below the value
pub below_count_falls : (places : List ℤ) (next value : ℤ) (v : ℕ) → v < length places → place_at places v ≡ next → next <ℤ value →
    below_count places next + 1 ≤ below_count places value
below_count_falls places next value v v_in e lt =
    let place = place_at places v in
    let rest : below_count (set places v value) next ≤ below_count (set places v value) value =
    sum_by-le-sum_by (counts_below next) (counts_below value) (set places v value) (λ other. below_higher next value other lt) in
    let low : below_count (set places v value) next + 0 ≡ below_count places next + 0 =
    rw (lt_z_false place next (omega (arith, ints, e)), lt_z_false value next (omega (arith, ints, lt)))
    at (sum_by-set (counts_below next) places v value (pos 0) v_in) in
    let high : below_count (set places v value) value + 1 ≡ below_count places value + 0 =
    rw (lt_z_true place value (omega (arith, ints, e, lt)), lt_z_false value value (omega (arith, ints)))
    at (sum_by-set (counts_below value) places v value (pos 0) v_in) in
    omega (arith, rest, low, high)

-- at the top value all labels of points there are zero
pub squeezed_first : (places labels after : List ℤ) → length labels ≡ length places → ((v : ℕ) → place_at places v ≤ℤ pos 0) →
    IsLevelled places labels after (pos 0) (pos 0) (length places) → AreSqueezed places after (pos 0) (pos 0)
squeezed_first places labels after size top levelled =
    let at = λ (v : ℕ) (v_in : v < length places) (up : pos 0 ≤ℤ place_at places v).
    let e : place_at places v ≡ pos 0 = omega (arith, ints, up, top v) in
    let l : place_at after v ≡ pos 0 = levelled.here v v_in e in
    let both : (place_at places v ≡ pos 0) × (place_at after v ≡ pos 0) = (e, l) in both in
    record {
      size = levelled.size ∙ size;
      top = omega (arith, ints);
      room = omega (arith, ints, count_by-le-length (λ place. lt_z place (pos 0)) places);
      value_top = omega (arith, ints);
      high = λ v v_in up. let b = at v v_in up in omega (arith, ints, b.1);
      near = λ v v_in up. let b = at v v_in up in inl (omega (arith, ints, b.0, b.1));
      pairs = λ u v u_in v_in up le.
          let a = at u u_in (omega (arith, ints, up, le)) in
          let b = at v v_in up in
          inl (omega (arith, ints, a.0, a.1, b.0, b.1));
    }

-- a gap and what it is cut to, added to a distance
spaced_more : (before after gap cut : ℤ) → AreSpaced before after → pos 0 ≤ℤ before → pos 0 <ℤ gap → cut ≡ int_min gap (pos 4096) →
    AreSpaced (before +ℤ gap) (after +ℤ cut)
spaced_more before after gap cut (inl e) low up is =
    by_lt_z (pos 4096) gap
    (λ far. inr (omega (arith, ints, clamps, e, low, is, far), omega (arith, ints, low, far)))
    (λ near. inl (omega (arith, ints, clamps, e, is, near)))
spaced_more before after gap cut (inr h) low up is =
    inr (omega (arith, ints, clamps, h.0, is, up), omega (arith, ints, h.1, up))

spaced_same : (a b c d : ℤ) → a ≡ c → b ≡ d → AreSpaced a b → AreSpaced c d
spaced_same a b c d e f (inl h) = inl (omega (arith, ints, e, f, h))
spaced_same a b c d e f (inr h) = inr (omega (arith, ints, f, h.0), omega (arith, ints, e, h.1))

-- the next lower value gets the level that is lower by the cut gap
pub squeezed_more : (places labels after : List ℤ) (value level next lower : ℤ) → AreSqueezed places labels value level →
    IsNextBelow places value (length places) (Some next) → lower ≡ (level -ℤ int_min (value -ℤ next) (pos 4096)) →
    IsLevelled places labels after next lower (length places) → AreSqueezed places after next lower
squeezed_more places labels after value level next lower was below is levelled =
    let gap : pos 0 <ℤ (value -ℤ next) = omega (arith, ints, below.0) in
    let cut_low : pos 0 <ℤ (level -ℤ lower) = omega (arith, ints, clamps, is, gap) in
    let cut_high : (level -ℤ lower) ≤ℤ pos 4096 = omega (arith, ints, clamps, is) in
    let cut : (level -ℤ lower) ≡ int_min (value -ℤ next) (pos 4096) = omega (arith, ints, is) in
    let fewer = below_count_falls places next value below.1.0 below.1.1 below.1.2 below.0 in
    let here = λ (v : ℕ) (v_in : v < length places) (e : place_at places v ≡ next). levelled.here v v_in e in
    let old = λ (v : ℕ) (up : value ≤ℤ place_at places v).
    levelled.rest v (λ e. let no : ⊥ = omega (arith, ints, e, up, below.0) in absurd no) in
    let split = λ (v : ℕ) (v_in : v < length places) (up : next ≤ℤ place_at places v).
    let s : (place_at places v ≡ next) ⊎ (value ≤ℤ place_at places v) = elim (below.2 v v_in) [
      | inl a ↦ inl (omega (arith, ints, a, up))
      | inr a ↦ inr a
    ] in s in
    let near = λ (v : ℕ) (v_in : v < length places) (up : value ≤ℤ place_at places v).
    let s : AreSpaced (place_at places v -ℤ next) (place_at after v -ℤ lower) =
    spaced_same _ _ (place_at places v -ℤ next) (place_at after v -ℤ lower) (omega (arith, ints)) (omega (arith, ints, old v up))
    (spaced_more (place_at places v -ℤ value) (place_at labels v -ℤ level) (value -ℤ next) (level -ℤ lower)
    (was.near v v_in up) (omega (arith, ints, up)) gap cut) in s in
    record {
      size = levelled.size ∙ was.size;
      top = omega (arith, ints, cut_low, was.top);
      room = omega (arith, ints, was.room, cut_high, fewer);
      value_top = omega (arith, ints, was.value_top, below.0);
      high = λ v v_in up. elim (split v v_in up) [
        | inl e ↦ omega (arith, ints, here v v_in e, cut_low, was.top)
        | inr a ↦ omega (arith, ints, old v a, was.high v v_in a)
      ];
      near = λ v v_in up. elim (split v v_in up) [
        | inl e ↦ inl (omega (arith, ints, e, here v v_in e))
        | inr a ↦ near v v_in a
      ];
      pairs = λ u v u_in v_in up le. elim (split v v_in up) [
        | inl e ↦ elim (split u u_in (omega (arith, ints, up, le))) [
          | inl f ↦ inl (omega (arith, ints, e, f, here v v_in e, here u u_in f))
          | inr b ↦ spaced_same _ _ (place_at places u -ℤ place_at places v) (place_at after u -ℤ place_at after v)
              (omega (arith, ints, e)) (omega (arith, ints, here v v_in e)) (near u u_in b)
        ]
        | inr a ↦
            let b : value ≤ℤ place_at places u = omega (arith, ints, a, le) in
            spaced_same _ _ (place_at places u -ℤ place_at places v) (place_at after u -ℤ place_at after v)
            (omega (arith, ints)) (omega (arith, ints, old u b, old v a)) (was.pairs u v u_in v_in a le)
      ];
    }

-- labels that are spaced as the places keep what the places keep
spaced_keep : (places labels : List ℤ) (value level : ℤ) → AreSqueezed places labels value level →
    ((v : ℕ) → v < length places → value ≤ℤ place_at places v) → KeepsLike places labels
spaced_keep places labels value level squeezed all edge is_edge keeps =
    by_lt_z (place_at places edge.b) (place_at places edge.a)
    (λ lt. elim (squeezed.pairs edge.a edge.b is_edge.first is_edge.second (all edge.b is_edge.second) (omega (arith, ints, lt))) [
      | inl e ↦ omega (arith, ints, e, keeps)
      | inr h ↦ absurd (omega (arith, ints, h.1, keeps, is_edge.high))
    ])
    (λ ge. elim (squeezed.pairs edge.b edge.a is_edge.second is_edge.first (all edge.a is_edge.first) ge) [
      | inl e ↦ omega (arith, ints, e, keeps)
      | inr h ↦ omega (arith, ints, h.0, is_edge.low)
    ])

-- once no place is below the value, the labels are anew
pub squeezed_ends : (places labels : List ℤ) (value level : ℤ) → length places ≤ 65536 → AreSqueezed places labels value level →
    IsNextBelow places value (length places) None → AreAnew places labels
squeezed_ends places labels value level few squeezed all =
    record {
      size = squeezed.size;
      fresh = All-from_get_or (λ (place : ℤ). (pos 0 ≤ℤ (place +ℤ pos (2 ^ 28))) × (place ≤ℤ pos 0)) labels (pos 0) (λ v v_in.
          let at : v < length places = omega (arith, squeezed.size) in
          let low : pos 0 ≤ℤ (place_at labels v +ℤ pos (2 ^ 28)) = elim (squeezed.near v at (all v at)) [
            | inl e ↦ omega (arith, ints, e, squeezed.room, few, all v at)
            | inr h ↦ omega (arith, ints, h.0, squeezed.room, few)
          ] in
          (low, squeezed.high v at (all v at)));
      keeps = spaced_keep places labels value level squeezed all;
    }
