use Rattle.std.proofs.Common.{◌≡◌, ◌≢◌, ℕ, ◌+◌, ◌-◌, ◌/◌, ◌<◌, ◌≤◌, suc, zero, inl, inr, List, length, set, slice_index, Some, None, refl, sym, ap, ◌∙◌, arith, ℤ, pos, ◌≤ℤ◌, ◌<ℤ◌}
use Rattle.std.proofs.lemmas.Bool.{cases_eq, cases_lt}
use Rattle.std.proofs.lemmas.Int.{ints}
use Rattle.std.proofs.lemmas.List.{length-set, get_or_past, get_or-set_same, get_or-set_other}
use Rattle.std.proofs.lemmas.List.Edits.{Swapped, swapped_from_swap, length-swap}
use Rattle.std.specs.List.{swap}
use Rattle.gp_difference.specs.Places.{place_at}
use Rattle.gp_difference.specs.Order.{IsSpot, HasAll}
use Rattle.gp_difference.specs.Falls.{AreHeaped, AreHeapedBut, IsBelow, IsHeapBut, IsMost, MayRise, MaySink, fall_at}

-- equal numbers are in the same order
le_as : {a b c d : ℤ} → a ≡ c → b ≡ d → c ≤ℤ d → a ≤ℤ b
le_as e f h = omega (arith, ints, e, f, h)

lt_as : {a c : ℤ} → a ≡ c → pos 0 <ℤ c → pos 0 <ℤ a
lt_as e h = omega (arith, ints, e, h)

le_then : {a b c : ℤ} → a ≤ℤ b → b ≤ℤ c → a ≤ℤ c
le_then h k = omega (arith, ints, h, k)

lt_then : {b c : ℤ} → pos 0 <ℤ b → b ≤ℤ c → pos 0 <ℤ c
lt_then h k = omega (arith, ints, h, k)

-- two points change spots, and with them their numbers
swapped : (falls : List ℤ) (order : List ℕ) (a b : ℕ) → a < length order → b < length order → Swapped (fall_at falls order) (fall_at falls (swap order a b)) a b
swapped falls order a b a_in b_in =
    let s : Swapped (slice_index order) (slice_index (swap order a b)) a b = swapped_from_swap order (swap order a b) a b 0 a_in b_in refl in
    (ap (place_at falls) s.0, ap (place_at falls) s.1, λ m n k. ap (place_at falls) (s.2 m n k))

-- a number goes with its point
pub number_moves : (falls : List ℤ) (order new : List ℕ) (a b : ℕ) → a < length order → b < length order → new ≡ swap order a b → fall_at falls order a ≡ fall_at falls new b
number_moves falls order new a b a_in b_in e = sym ((swapped falls order a b a_in b_in).1) ∙ ap (λ now. fall_at falls now b) (sym e)

-- the number that would stand at the spot tells whether this is in the heap
in_heap : (falls : List ℤ) (order : List ℕ) (count spot : ℕ) (x : ℤ) → AreHeapedBut falls order count spot x → pos 0 <ℤ x → spot < count
in_heap falls order count spot x was some = elim (cases_lt spot count) [
  | inl lt ↦ lt
  | inr out ↦ absurd (let none = was.outside out in omega (arith, ints, some, none))
]

pub not_in_heap : (falls : List ℤ) (order : List ℕ) (count spot : ℕ) (x : ℤ) → AreHeapedBut falls order count spot x → x ≤ℤ pos 0 → count ≤ spot
not_in_heap falls order count spot x was none = elim (cases_lt spot count) [
  | inl lt ↦ absurd (let some = was.inside lt in omega (arith, ints, some, none))
  | inr out ↦ out
]

-- the number that would stand at the spot stands at another one, and the two are exchanged
heap_exchanged : (f g : ℕ → ℤ) (count spot other : ℕ) → IsHeapBut f count spot (f other) → other ≢ spot → other < count → Swapped f g spot other → IsHeapBut g count other (f other)
heap_exchanged f g count spot other was apart other_in s = record {
  others = λ above below is below_in above_apart below_apart. elim (cases_eq above spot) [
    | inl e ↦ le_as (s.2 below (λ h. omega (arith, h, e, is)) below_apart) (ap g e ∙ s.0) (was.greatest below (omega (arith, e, is)) below_in)
    | inr n ↦ elim (cases_eq below spot) [
      | inl e ↦ le_as (ap g e ∙ s.0) (s.2 above n above_apart) (was.least above (omega (arith, e, is)) (omega (arith, e, below_in)))
      | inr m ↦ le_as (s.2 below m below_apart) (s.2 above n above_apart) (was.others above below is below_in n m)
    ]
  ];
  greatest = λ below is below_in. elim (cases_eq below spot) [
    | inl e ↦ le_as (ap g e ∙ s.0) refl (omega (arith, ints))
    | inr m ↦ le_as (s.2 below m (λ h. omega (arith, h, is))) refl (was.others other below is below_in apart m)
  ];
  least = λ above is _. elim (cases_eq above spot) [
    | inl e ↦ le_as refl (ap g e ∙ s.0) (omega (arith, ints))
    | inr n ↦ le_as refl (s.2 above n (λ h. omega (arith, h, is))) (was.others above other is other_in n apart)
  ];
}

-- the same of points whose numbers are a heap but at the spot
but_exchanged : (falls : List ℤ) (order : List ℕ) (count spot other : ℕ) → AreHeapedBut falls order count spot (fall_at falls order other) →
    other ≢ spot → other < count → spot < count → AreHeapedBut falls (swap order spot other) count other (fall_at falls order other)
but_exchanged falls order count spot other was apart other_in spot_in =
    let size : length (swap order spot other) ≡ length order = length-swap order spot other in
    let s = swapped falls order spot other was.within (omega (arith, other_in, was.few)) in
    record {
      size = size ∙ was.size;
      few = omega (arith, size, was.few);
      within = omega (arith, size, was.few, other_in);
      first = λ k k_in n. elim (cases_eq k spot) [
        | inl e ↦ lt_as (ap (fall_at falls (swap order spot other)) e ∙ s.0) (was.inside spot_in)
        | inr m ↦ lt_as (s.2 k m n) (was.first k k_in m)
      ];
      rest = λ k k_out k_in n. let m : k ≢ spot = λ h. omega (arith, h, k_out, spot_in) in le_as (s.2 k m n) refl (was.rest k k_out (omega (arith, size, k_in)) m);
      inside = λ _. was.inside spot_in;
      outside = λ h. absurd (omega (arith, h, other_in));
      heap = heap_exchanged _ _ count spot other was.heap apart other_in s;
    }

-- another number that fits at the spot
but_number : (falls : List ℤ) (order : List ℕ) (count spot : ℕ) (x y : ℤ) → AreHeapedBut falls order count spot x → spot < count → pos 0 <ℤ y →
    ((below : ℕ) → IsBelow spot below → below < count → fall_at falls order below ≤ℤ y) → ((above : ℕ) → IsBelow above spot → y ≤ℤ fall_at falls order above) →
    AreHeapedBut falls order count spot y
but_number falls order count spot x y was spot_in some greatest least = record {
  size = was.size;
  few = was.few;
  within = was.within;
  first = was.first;
  rest = was.rest;
  inside = λ _. some;
  outside = λ h. absurd (omega (arith, h, spot_in));
  heap = record { others = was.heap.others; greatest = greatest; least = λ above is _. least above is };
}

-- the number that stands at the spot is the one that fits there
heaped : (falls : List ℤ) (order : List ℕ) (count spot : ℕ) → AreHeapedBut falls order count spot (fall_at falls order spot) → AreHeaped falls order count
heaped falls order count spot was =
    let fall = fall_at falls order in
    record {
      size = was.size;
      few = was.few;
      first = λ k k_in. elim (cases_eq k spot) [
        | inl e ↦ lt_as (ap fall e) (was.inside (omega (arith, e, k_in)))
        | inr n ↦ was.first k k_in n
      ];
      rest = λ k k_out k_in. elim (cases_eq k spot) [
        | inl e ↦ le_as (ap fall e) refl (was.outside (omega (arith, e, k_out)))
        | inr n ↦ was.rest k k_out k_in n
      ];
      heap = λ above below is below_in. elim (cases_eq above spot) [
        | inl e ↦ le_as refl (ap fall e) (was.heap.greatest below (omega (arith, e, is)) below_in)
        | inr n ↦ elim (cases_eq below spot) [
          | inl e ↦ le_as (ap fall e) refl (was.heap.least above (omega (arith, e, is)) (omega (arith, e, below_in)))
          | inr m ↦ was.heap.others above below is below_in n m
        ]
      ];
    }

-- nothing above is less than the number at the spot
pub rise_ends : (falls : List ℤ) (order : List ℕ) (count spot : ℕ) → MayRise falls order count spot →
    ((above : ℕ) → IsBelow above spot → fall_at falls order spot ≤ℤ fall_at falls order above) → AreHeaped falls order count
rise_ends falls order count spot (x, was, spot_in, le) least =
    heaped falls order count spot (but_number falls order count spot x _ was spot_in (lt_then (was.inside spot_in) le) (λ below is below_in. le_then (was.heap.greatest below is below_in) le) least)

-- the number above is less than the one at the spot
pub rise_more : (falls : List ℤ) (order : List ℕ) (count spot above : ℕ) → MayRise falls order count spot → IsBelow above spot →
    fall_at falls order above ≤ℤ fall_at falls order spot → MayRise falls (swap order spot above) count above
rise_more falls order count spot above (x, was, spot_in, le) is lt =
    let apart : above ≢ spot = λ h. omega (arith, h, is) in
    let above_in : above < count = omega (arith, is, spot_in) in
    let up : x ≤ℤ fall_at falls order above = was.heap.least above is spot_in in
    let s = swapped falls order spot above was.within (omega (arith, above_in, was.few)) in (
      fall_at falls order above,
      but_exchanged falls order count spot above (but_number falls order count spot x (fall_at falls order above) was spot_in (lt_then (was.inside spot_in) up)
          (λ below is_below below_in. le_then (was.heap.greatest below is_below below_in) up)
          (λ other is_other. let e : above ≡ other = omega (arith, is, is_other) in le_as (ap (fall_at falls order) e) refl (omega (arith, ints))))
          apart above_in spot_in,
      above_in,
      le_as refl s.1 lt,
    )

-- nothing below is greater than the number at the spot
pub sink_ends : (falls : List ℤ) (order : List ℕ) (count spot : ℕ) → MaySink falls order count spot →
    ((below : ℕ) → IsBelow spot below → below < count → fall_at falls order below ≤ℤ fall_at falls order spot) → AreHeaped falls order count
sink_ends falls order count spot (x, was, spot_in, some, le) greatest =
    heaped falls order count spot (but_number falls order count spot x _ was spot_in some greatest (λ above is. le_then le (was.heap.least above is spot_in)))

-- the greatest number below is greater than the one at the spot
pub sink_more : (falls : List ℤ) (order : List ℕ) (count spot below : ℕ) → MaySink falls order count spot → IsBelow spot below → below < count →
    fall_at falls order spot ≤ℤ fall_at falls order below →
    ((other : ℕ) → IsBelow spot other → other < count → fall_at falls order other ≤ℤ fall_at falls order below) →
    MaySink falls (swap order spot below) count below
sink_more falls order count spot below (x, was, spot_in, some, le) is below_in lt greatest =
    let apart : below ≢ spot = λ h. omega (arith, h, is) in
    let down : fall_at falls order below ≤ℤ x = was.heap.greatest below is below_in in
    let s = swapped falls order spot below was.within (omega (arith, below_in, was.few)) in (
      fall_at falls order below,
      but_exchanged falls order count spot below
          (but_number falls order count spot x (fall_at falls order below) was spot_in (lt_then some lt) greatest (λ above is_above. le_then down (was.heap.least above is_above spot_in))) apart below_in spot_in,
      below_in,
      lt_as s.1 some,
      le_as s.1 refl lt,
    )

-- a point comes to the first spot past the heap
pub enters : (falls : List ℤ) (order : List ℕ) (count spot : ℕ) (x : ℤ) → AreHeapedBut falls order count spot x → count ≤ spot → pos 0 <ℤ fall_at falls order spot →
    MayRise falls (swap order spot count) (count + 1) count
enters falls order count spot x was out some =
    let count_in : count < length order = omega (arith, out, was.within) in
    let size : length (swap order spot count) ≡ length order = length-swap order spot count in
    let s = swapped falls order spot count was.within count_in in
    let far = λ (k : ℕ) (k_in : k < count). let n : k ≢ spot = λ h. omega (arith, h, k_in, out) in n in
    let stays = λ (k : ℕ) (k_in : k < count). s.2 k (far k k_in) (λ h. omega (arith, h, k_in)) in (
      pos 1,
      record {
        size = size ∙ was.size;
        few = omega (arith, size, count_in);
        within = omega (arith, size, count_in);
        first = λ k k_in n. let before : k < count = omega (arith, k_in, n) in lt_as (stays k before) (was.first k before (far k before));
        rest = λ k k_out k_in n. elim (cases_eq k spot) [
          | inl e ↦ le_as (ap (fall_at falls (swap order spot count)) e ∙ s.0) refl (was.rest count (omega arith) count_in (λ q. omega (arith, q, e, k_out)))
          | inr m ↦ le_as (s.2 k m n) refl (was.rest k (omega (arith, k_out)) (omega (arith, size, k_in)) m)
        ];
        inside = λ _. omega (arith, ints);
        outside = λ h. absurd (omega (arith, h));
        heap = record {
          others = λ above below is below_in n m.
              let before : below < count = omega (arith, below_in, m) in
              let sooner : above < count = omega (arith, before, is) in
              le_as (stays below before) (stays above sooner) (was.heap.others above below is before (far above sooner) (far below before));
          greatest = λ below is below_in. absurd (omega (arith, is, below_in));
          least = λ above is _. let before : above < count = omega (arith, is) in le_as refl (stays above before) (let h = was.first above before (far above before) in omega (arith, ints, h));
        };
      },
      omega arith,
      le_as refl s.1 (omega (arith, ints, some)),
    )

-- a point goes to the last spot of the heap, which ends before it from now on; where it stood there already, any number not above zero would do
leaves : (falls : List ℤ) (order : List ℕ) (count last spot : ℕ) (x y : ℤ) → AreHeapedBut falls order count spot x → count ≡ last + 1 → spot < count →
    fall_at falls order spot ≤ℤ pos 0 → (spot < last → y ≡ x) → (last ≤ spot → y ≤ℤ pos 0) → AreHeapedBut falls (swap order spot last) last spot y
leaves falls order count last spot x y was next spot_in none same least =
    let last_in : last < length order = omega (arith, next, was.few) in
    let size : length (swap order spot last) ≡ length order = length-swap order spot last in
    let s = swapped falls order spot last was.within last_in in
    record {
      size = size ∙ was.size;
      few = omega (arith, size, last_in);
      within = omega (arith, size, was.within);
      first = λ k k_in n. lt_as (s.2 k n (λ h. omega (arith, h, k_in))) (was.first k (omega (arith, next, k_in)) n);
      rest = λ k k_out k_in n. elim (cases_eq k last) [
        | inl e ↦ le_as (ap (fall_at falls (swap order spot last)) e ∙ s.1) refl none
        | inr m ↦ le_as (s.2 k n m) refl (was.rest k (omega (arith, next, k_out, m)) (omega (arith, size, k_in)) n)
      ];
      inside = λ before. lt_as (same before) (was.inside spot_in);
      outside = least;
      heap = record {
        others = λ above below is below_in n m.
            le_as (s.2 below m (λ h. omega (arith, h, below_in))) (s.2 above n (λ h. omega (arith, h, is, below_in))) (was.heap.others above below is (omega (arith, next, below_in)) n m);
        greatest = λ below is below_in.
            le_as (s.2 below (λ h. omega (arith, h, is)) (λ h. omega (arith, h, below_in))) (same (omega (arith, is, below_in))) (was.heap.greatest below is (omega (arith, next, below_in)));
        least = λ above is before. le_as (same before) (s.2 above (λ h. omega (arith, h, is)) (λ h. omega (arith, h, is, before))) (was.heap.least above is spot_in);
      };
    }

-- another point comes to its spot
pub leaves_more : (falls : List ℤ) (order : List ℕ) (count spot : ℕ) (x y : ℤ) → AreHeapedBut falls order count spot x → y ≡ x →
    fall_at falls order spot ≤ℤ pos 0 → spot < count - 1 → AreHeapedBut falls (swap order spot (count - 1)) (count - 1) spot y
leaves_more falls order count spot x y was same none before =
    leaves falls order count (count - 1) spot x y was (omega (arith, before)) (omega (arith, before)) none (λ _. same) (λ h. absurd (omega (arith, h, before)))

pub leaves_some : (falls : List ℤ) (order : List ℕ) (count spot : ℕ) (x : ℤ) → AreHeapedBut falls order count spot x → spot < count - 1 →
    pos 0 <ℤ fall_at falls (swap order spot (count - 1)) spot
leaves_some falls order count spot x was before =
    lt_as ((swapped falls order spot (count - 1) was.within (omega (arith, before, was.few))).0) (was.first (count - 1) (omega (arith, before)) (λ h. omega (arith, h, before)))

-- it stood at the last spot of the heap
pub leaves_last : (falls : List ℤ) (order : List ℕ) (count spot : ℕ) (x : ℤ) → AreHeapedBut falls order count spot x → pos 0 <ℤ x →
    fall_at falls order spot ≤ℤ pos 0 → count - 1 ≤ spot → AreHeaped falls (swap order spot (count - 1)) (count - 1)
leaves_last falls order count spot x was some none end =
    let spot_in : spot < count = in_heap falls order count spot x was some in
    let last_in : count - 1 < length order = omega (arith, end, was.within) in
    let e : count - 1 ≡ spot = omega (arith, end, spot_in) in
    let at : fall_at falls (swap order spot (count - 1)) spot ≡ fall_at falls order spot =
    ap (fall_at falls (swap order spot (count - 1))) (sym e) ∙ (swapped falls order spot (count - 1) was.within last_in).1 in
    heaped falls (swap order spot (count - 1)) (count - 1) spot
    (leaves falls order count (count - 1) spot x _ was (omega (arith, spot_in)) spot_in none (λ h. absurd (omega (arith, h, e))) (λ _. le_as at refl none))

-- the number of a point was written
pub written : (falls : List ℤ) (order : List ℕ) (count point spot : ℕ) (x y : ℤ) → AreHeaped falls order count → IsSpot order point spot → x ≡ place_at falls point →
    AreHeapedBut (set falls point y) order count spot x
written falls order count point spot x y was is before =
    let at : x ≡ fall_at falls order spot = before ∙ ap (place_at falls) (sym is.here) in
    let stays = λ (k : ℕ) (k_in : k < length order) (n : k ≢ spot).
    let same : fall_at (set falls point y) order k ≡ fall_at falls order k = get_or-set_other falls point (slice_index order k) y (pos 0) (λ e. n (is.alone k k_in e)) in same in
    record {
      size = was.size ∙ sym (length-set falls point y);
      few = was.few;
      within = is.within;
      first = λ k k_in n. lt_as (stays k (omega (arith, k_in, was.few)) n) (was.first k k_in);
      rest = λ k k_out k_in n. le_as (stays k k_in n) refl (was.rest k k_out k_in);
      inside = λ spot_in. lt_as at (was.first spot spot_in);
      outside = λ out. le_as at refl (was.rest spot out is.within);
      heap = record {
        others = λ above below b below_in n m. le_as (stays below (omega (arith, below_in, was.few)) m) (stays above (omega (arith, b, below_in, was.few)) n) (was.heap above below b below_in);
        greatest = λ below b below_in. le_as (stays below (omega (arith, below_in, was.few)) (λ h. omega (arith, h, b))) at (was.heap spot below b below_in);
        least = λ above b spot_in. le_as at (stays above (omega (arith, b, is.within)) (λ h. omega (arith, h, b))) (was.heap above spot b spot_in);
      };
    }

pub written_at : (falls : List ℤ) (order : List ℕ) (point spot : ℕ) (x y : ℤ) → IsSpot order point spot → point < length falls → x ≡ y → x ≡ fall_at (set falls point y) order spot
written_at falls order point spot x y is point_in e = e ∙ sym (get_or-set_same falls point y (pos 0) point_in) ∙ ap (place_at (set falls point y)) (sym is.here)

-- no number is greater than the one at the top
top : (falls : List ℤ) (order : List ℕ) (count limit k : ℕ) → AreHeaped falls order count → k < limit → k < count → fall_at falls order k ≤ℤ fall_at falls order 0
top falls order count zero k is lt k_in = absurd (omega (arith, lt))
top falls order count (suc limit) k is lt k_in = elim (cases_eq k 0) [
  | inl e ↦ le_as (ap (fall_at falls order) e) refl (omega (arith, ints))
  | inr n ↦
      let some : k ≢ 0 = n in
      let b : IsBelow ((k - 1) / 2) k = (omega (arith, some), omega (arith, some)) in
      le_then (is.heap ((k - 1) / 2) k b k_in) (top falls order count limit ((k - 1) / 2) is (omega (arith, b, lt)) (omega (arith, b, k_in)))
]

-- no number is greater than a bound that none in the order is
all_below : (falls : List ℤ) (order : List ℕ) (most : ℤ) → length order ≡ length falls → HasAll order → pos 0 ≤ℤ most → ((k : ℕ) → k < length order → fall_at falls order k ≤ℤ most) →
    (v : ℕ) → place_at falls v ≤ℤ most
all_below falls order most size all some is v = elim (cases_lt v (length falls)) [
  | inl v_in ↦ let at = all v (omega (arith, v_in, size)) in le_as (ap (place_at falls) (sym at.1.here)) refl (is at.0 at.1.within)
  | inr out ↦ le_as (get_or_past falls v (pos 0) out) refl some
]

-- no point stands in the heap
pub most_none : (falls : List ℤ) (order : List ℕ) (count : ℕ) → AreHeaped falls order count → HasAll order → count ≡ 0 → IsMost falls None
most_none falls order count is all none = all_below falls order (pos 0) is.size all (omega (arith, ints)) (λ k k_in. is.rest k (omega (arith, none)) k_in)

-- the point at the top has the greatest number
pub most_some : (falls : List ℤ) (order : List ℕ) (count point : ℕ) → AreHeaped falls order count → HasAll order → 0 < count → point ≡ slice_index order 0 →
    point < length order → IsMost falls (Some point)
most_some falls order count point is all some first point_in =
    let at : place_at falls point ≡ fall_at falls order 0 = ap (place_at falls) first in
    let more : pos 0 <ℤ place_at falls point = lt_as at (is.first 0 some) in
    let none : pos 0 ≤ℤ place_at falls point = omega (arith, ints, more) in (
      omega (arith, point_in, is.size),
      more,
      all_below falls order (place_at falls point) is.size all none (λ k k_in. elim (cases_lt k count) [
        | inl lt ↦ le_as refl at (top falls order count (k + 1) k is (omega arith) lt)
        | inr out ↦ le_then (is.rest k out k_in) none
      ]),
    )
