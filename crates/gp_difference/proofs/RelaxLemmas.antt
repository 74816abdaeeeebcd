use Rattle.std.proofs.Common.{◌≡◌, ◌≢◌, ℕ, ◌+◌, ◌^◌, ◌<◌, List, [], ◌∷◌, ◌++◌, length, get_or, sym, ap, ◌∙◌, subst, arith, ℤ, pos, ◌+ℤ◌, ◌≤ℤ◌, ◌<ℤ◌, w64, to_z, of_z}
use Rattle.std.proofs.lemmas.Int.{ints, by_lt_z}
use Rattle.gp_clause.specs.declared.edge.Edge.{Edge}
use Rattle.gp_difference.specs.declared.bound.Bound.{Bound}
use Rattle.gp_difference.specs.Places.{place_at}
use Rattle.gp_difference.specs.Bounds.{edge_at, no_bound}
use Rattle.gp_difference.specs.Lower.{IsInput, IsScan, Scanning, Closing}
use Rattle.gp_difference.specs.Placement.{PlacementForm, lowered, with_fallen}
use Rattle.gp_difference.proofs.RunLemmas.{unsettled, lowered_work}
use Rattle.gp_difference.proofs.CountLemmas.{still_one}
use Rattle.gp_difference.proofs.FallenLemmas.{fallen_lowered, fallen_fell}
use Rattle.gp_difference.proofs.ScanLemmas.{scan_kept, scan_lowered}

-- a sum of a label and a bound's number does not wrap
pub sum_is : (label c : ℤ) → pos 0 ≤ℤ (label +ℤ pos (2 ^ 62 + 2 ^ 29)) → label ≤ℤ pos 0 → pos 0 ≤ℤ (c +ℤ pos 4096) → c ≤ℤ pos 4096 →
    to_z w64 (of_z w64 (to_z w64 (of_z w64 label) +ℤ to_z w64 (of_z w64 c))) ≡ (label +ℤ c)
sum_is label c low high c_low c_high = omega (arith, ints)

-- the label of the point at hand is far from the ends of the integers
label_low : (bounds : List Bound) (new : Edge) (p : PlacementForm) (ranks : List ℕ) (done s i : ℕ) →
    IsInput bounds new p.places → IsScan bounds new p ranks done s i → pos 0 ≤ℤ (place_at p.labels s +ℤ pos (2 ^ 62 + 2 ^ 29))
label_low bounds new p ranks done s i input scan =
    omega (arith, ints, scan.low, input.bottom new.b, scan.work.few, input.few)

-- a bound that the labels keep
pub relax_keeps : (bounds : List Bound) (new : Edge) (p : PlacementForm) (done i : ℕ) (e : Edge) → edge_at bounds i ≡ e →
    Scanning bounds new p done (edge_at bounds i).b (i + 1) → place_at p.labels e.a ≤ℤ (place_at p.labels e.b +ℤ e.c) →
    Scanning bounds new p done (edge_at bounds i).b i
relax_keeps bounds new p done i e q (ranks, scan) kept =
    let at : place_at p.labels (edge_at bounds i).a ≤ℤ (place_at p.labels (edge_at bounds i).b +ℤ (edge_at bounds i).c) =
    subst (λ (e : Edge). place_at p.labels e.a ≤ℤ (place_at p.labels e.b +ℤ e.c)) (sym q) kept in
    (ranks, scan_kept bounds new p ranks done i scan (omega (arith, ints, at)))

-- a bound that would lower the new bound's second point
pub relax_closes : (bounds : List Bound) (new : Edge) (p : PlacementForm) (done i : ℕ) (e : Edge) → edge_at bounds i ≡ e → i < length bounds →
    Scanning bounds new p done (edge_at bounds i).b (i + 1) → (place_at p.labels e.b +ℤ e.c) <ℤ place_at p.labels e.a → e.a ≡ new.b →
    Closing bounds new p i
relax_closes bounds new p done i e q i_in (ranks, scan) less at =
    let broken : (place_at p.labels (edge_at bounds i).b +ℤ (edge_at bounds i).c) <ℤ place_at p.labels (edge_at bounds i).a =
    subst (λ (e : Edge). (place_at p.labels e.b +ℤ e.c) <ℤ place_at p.labels e.a) (sym q) less in
    let start : (edge_at bounds i).a ≡ new.b = subst (λ (e : Edge). e.a ≡ new.b) (sym q) at in (
      ranks,
      done,
      record {
        work = scan.work;
        fallen = scan.fallen;
        small = i_in;
        start = start;
        settled = omega (arith, scan.last);
        fell = scan.fell;
        less = omega (arith, ints, broken, scan.work.new_end, ap (place_at p.labels) start);
      },
    )

-- a bound that lowers a point that fell already
lowers_again : (bounds : List Bound) (new : Edge) (p : PlacementForm) (done i : ℕ) (x : ℤ) → IsInput bounds new p.places → i < length bounds →
    Scanning bounds new p done (edge_at bounds i).b (i + 1) →
    x ≡ (place_at p.labels (edge_at bounds i).b +ℤ (edge_at bounds i).c) → x <ℤ place_at p.labels (edge_at bounds i).a →
    (edge_at bounds i).a ≢ new.b → place_at p.labels (edge_at bounds i).a <ℤ place_at p.places (edge_at bounds i).a →
    Scanning bounds new (lowered p (edge_at bounds i).a x i) done (edge_at bounds i).b i
lowers_again bounds new p done i x input i_in (ranks, scan) value broken away fell =
    let e = edge_at bounds i in
    let t_in : e.a < length p.places = (input.edges i i_in).first in
    let free : get_or ranks e.a 0 ≡ length p.places = unsettled bounds new p ranks done i input i_in scan (omega (arith, ints, value, broken)) in
    let work = lowered_work bounds new p ranks done i x input i_in scan value broken away free in
    let listed = fallen_lowered p ranks done e.a i x scan.work.labels_size t_in scan.work.few scan.fallen free fell broken in
    (ranks, scan_lowered bounds new p p.fallen ranks done i x (omega (arith, scan.work.labels_size, t_in)) scan value broken free work listed)

-- a bound that lowers a point for the first time
lowers_first : (bounds : List Bound) (new : Edge) (p : PlacementForm) (done i : ℕ) (x : ℤ) → IsInput bounds new p.places → i < length bounds →
    Scanning bounds new p done (edge_at bounds i).b (i + 1) →
    x ≡ (place_at p.labels (edge_at bounds i).b +ℤ (edge_at bounds i).c) → x <ℤ place_at p.labels (edge_at bounds i).a →
    (edge_at bounds i).a ≢ new.b → place_at p.places (edge_at bounds i).a ≤ℤ place_at p.labels (edge_at bounds i).a →
    Scanning bounds new (lowered (with_fallen p (edge_at bounds i).a) (edge_at bounds i).a x i) done (edge_at bounds i).b i
lowers_first bounds new p done i x input i_in (ranks, scan) value broken away still =
    let e = edge_at bounds i in
    let t_in : e.a < length p.places = (input.edges i i_in).first in
    let free : get_or ranks e.a 0 ≡ length p.places = unsettled bounds new p ranks done i input i_in scan (omega (arith, ints, value, broken)) in
    let work = lowered_work bounds new p ranks done i x input i_in scan value broken away free in
    let lower : x <ℤ place_at p.places e.a = omega (arith, ints, broken, scan.work.below e.a) in
    let listed = fallen_fell p ranks done e.a i x scan.work.labels_size t_in scan.work.few scan.fallen free still lower in
    (ranks, scan_lowered bounds new p (p.fallen ++ e.a ∷ []) ranks done i x (omega (arith, scan.work.labels_size, t_in)) scan value broken free work listed)

-- the same at an edge that was read
pub relax_fell : (bounds : List Bound) (new : Edge) (p : PlacementForm) (done i : ℕ) (e : Edge) → edge_at bounds i ≡ e → IsInput bounds new p.places →
    i < length bounds → Scanning bounds new p done (edge_at bounds i).b (i + 1) → (x : ℤ) →
    x ≡ (place_at p.labels e.b +ℤ e.c) → x <ℤ place_at p.labels e.a → e.a ≢ new.b → place_at p.labels e.a <ℤ place_at p.places e.a →
    Scanning bounds new (lowered p e.a x i) done (edge_at bounds i).b i
relax_fell bounds new p done i e q input i_in scan =
    subst (λ (e : Edge). (x : ℤ) → x ≡ (place_at p.labels e.b +ℤ e.c) → x <ℤ place_at p.labels e.a → e.a ≢ new.b →
    place_at p.labels e.a <ℤ place_at p.places e.a → Scanning bounds new (lowered p e.a x i) done (edge_at bounds i).b i) q
    (λ x value broken away fell. lowers_again bounds new p done i x input i_in scan value broken away fell)

pub relax_falls : (bounds : List Bound) (new : Edge) (p : PlacementForm) (done i : ℕ) (e : Edge) → edge_at bounds i ≡ e → IsInput bounds new p.places →
    i < length bounds → Scanning bounds new p done (edge_at bounds i).b (i + 1) → (x : ℤ) →
    x ≡ (place_at p.labels e.b +ℤ e.c) → x <ℤ place_at p.labels e.a → e.a ≢ new.b → place_at p.places e.a ≤ℤ place_at p.labels e.a →
    Scanning bounds new (lowered (with_fallen p e.a) e.a x i) done (edge_at bounds i).b i
relax_falls bounds new p done i e q input i_in scan =
    subst (λ (e : Edge). (x : ℤ) → x ≡ (place_at p.labels e.b +ℤ e.c) → x <ℤ place_at p.labels e.a → e.a ≢ new.b →
    place_at p.places e.a ≤ℤ place_at p.labels e.a → Scanning bounds new (lowered (with_fallen p e.a) e.a x i) done (edge_at bounds i).b i) q
    (λ x value broken away still. lowers_first bounds new p done i x input i_in scan value broken away still)

-- the buffers at an edge's points: their sizes, and labels that are far from the ends of the integers
pub record AreNear (p : PlacementForm) (e : Edge) : Type 0 where
  pub first_place : e.a < length p.places
  pub first_label : e.a < length p.labels
  pub first_via : e.a < length p.via
  pub first_fall : e.a < length p.falls
  pub second_label : e.b < length p.labels
  pub room : place_at p.places e.a ≤ℤ place_at p.labels e.a → length p.fallen < length p.places
  pub first_low : pos 0 ≤ℤ (place_at p.labels e.a +ℤ pos (2 ^ 62 + 2 ^ 29))
  pub first_high : place_at p.labels e.a ≤ℤ pos 0
  pub below : place_at p.labels e.a ≤ℤ place_at p.places e.a
  pub place_low : pos 0 ≤ℤ (place_at p.places e.a +ℤ pos (2 ^ 62 + 2 ^ 29))
  pub place_high : place_at p.places e.a ≤ℤ pos 0
  pub second_low : pos 0 ≤ℤ (place_at p.labels e.b +ℤ pos (2 ^ 62 + 2 ^ 29))
  pub second_high : place_at p.labels e.b ≤ℤ pos 0
  pub low : pos 0 ≤ℤ (e.c +ℤ pos 4096)
  pub high : e.c ≤ℤ pos 4096

near_read : (bounds : List Bound) (new : Edge) (p : PlacementForm) (i : ℕ) (e : Edge) → edge_at bounds i ≡ e →
    IsInput bounds new p.places → i < length bounds →
    ((done : ℕ) × Scanning bounds new p done (edge_at bounds i).b (i + 1)) → AreNear p e
near_read bounds new p i e q input i_in (done, (ranks, scan)) =
    let first = (edge_at bounds i).a in
    let first_in : first < length p.places = (input.edges i i_in).first in
    let second_in : (edge_at bounds i).b < length p.places = (input.edges i i_in).second in
    subst (λ (e : Edge). AreNear p e) q (record {
      first_place = first_in;
      first_label = omega (arith, first_in, scan.work.labels_size);
      first_via = omega (arith, first_in, scan.work.via_size);
      first_fall = omega (arith, first_in, scan.fallen.falls_size);
      second_label = omega (arith, second_in, scan.work.labels_size);
      room = λ still. omega (arith, still_one p.places p.labels first scan.work.labels_size first_in still, scan.fallen.room);
      first_low = by_lt_z (place_at p.labels first) (place_at p.places first)
          (λ fell. omega (arith, ints, scan.work.low first first_in fell, input.bottom new.b, scan.work.few, input.few))
          (λ still. omega (arith, ints, still, input.bottom first));
      first_high = omega (arith, ints, scan.work.below first, input.top first);
      below = scan.work.below first;
      place_low = omega (arith, ints, input.bottom first);
      place_high = input.top first;
      second_low = label_low bounds new p ranks done (edge_at bounds i).b (i + 1) input scan;
      second_high = omega (arith, ints, scan.work.below (edge_at bounds i).b, input.top (edge_at bounds i).b);
      low = (input.edges i i_in).low;
      high = (input.edges i i_in).high;
    })

-- the same of a bound that was read
pub near_bound : (bounds : List Bound) (new : Edge) (p : PlacementForm) (i : ℕ) (bound : Bound) → bound ≡ get_or bounds i no_bound →
    IsInput bounds new p.places → i < length bounds →
    ((done : ℕ) × Scanning bounds new p done (edge_at bounds i).b (i + 1)) → AreNear p bound.edge
near_bound bounds new p i bound is = near_read bounds new p i bound.edge (sym (ap (λ (b : Bound). b.edge) is))

-- the label that a bound offers its first point does not wrap
pub near_sum : (p : PlacementForm) (e : Edge) (label : ℤ) → AreNear p e → label ≡ place_at p.labels e.b →
    to_z w64 (of_z w64 (to_z w64 (of_z w64 label) +ℤ to_z w64 (of_z w64 e.c))) ≡ (place_at p.labels e.b +ℤ e.c)
near_sum p e label near is =
    sum_is label e.c (omega (arith, ints, is, near.second_low)) (omega (arith, ints, is, near.second_high)) near.low near.high ∙ ap (λ l. l +ℤ e.c) is
