use Rattle.std.proofs.Common.{◌≡◌, ◌≢◌, ℕ, ◌+◌, ◌<◌, ◌≤◌, inl, inr, suc, zero, List, [], ◌∷◌, Some, None, length, get_or, set, refl, sym, ap, subst, ◌∙◌, arith, ℤ, pos, ◌+ℤ◌, ◌≤ℤ◌, ◌<ℤ◌}
use Rattle.std.proofs.lemmas.Int.{ints}
use Rattle.std.proofs.lemmas.Bool.{cases_eq, cases_lt}
use Rattle.std.proofs.lemmas.List.{length-set, get_or-set_other}
use Rattle.std.specs.List.{Contains}
use Rattle.gp_clause.specs.declared.edge.Edge.{Edge}
use Rattle.gp_clause.specs.Edge.{Keeps}
use Rattle.gp_difference.specs.declared.bound.Bound.{Bound}
use Rattle.gp_difference.specs.Places.{place_at}
use Rattle.gp_difference.specs.Bounds.{edge_at, edges_of}
use Rattle.gp_difference.specs.Graph.{Reaches}
use Rattle.gp_difference.specs.Links.{IsLatest}
use Rattle.gp_difference.specs.Lower.{IsInput, IsWork, IsFallen, IsScan, IsRun, IsLowered, open_count}
use Rattle.gp_difference.specs.Falls.{IsMost}
use Rattle.gp_difference.specs.Placement.{PlacementForm, lowered}
use Rattle.gp_difference.proofs.RunLemmas.{read_set}
use Rattle.gp_difference.proofs.CountLemmas.{open_one, open_falls}
use Rattle.gp_difference.proofs.FallenLemmas.{fallen_closed}

-- a bound that the labels keep is scanned
pub scan_kept : (bounds : List Bound) (new : Edge) (p : PlacementForm) (ranks : List ℕ) (done i : ℕ) →
    IsScan bounds new p ranks done (edge_at bounds i).b (i + 1) → Keeps (place_at p.labels) (edge_at bounds i) →
    IsScan bounds new p ranks done (edge_at bounds i).b i
scan_kept bounds new p ranks done i scan kept =
    record {
      work = scan.work;
      fallen = scan.fallen;
      small = scan.small;
      last = scan.last;
      fell = scan.fell;
      low = scan.low;
      settled = scan.settled;
      scanned = λ j le j_in out. elim (cases_eq j i) [
        | inl e ↦ subst (λ k. Keeps (place_at p.labels) (edge_at bounds k)) (sym e) kept
        | inr n ↦ let above : j ≢ i = n in scan.scanned j (omega arith) j_in out
      ];
    }

-- a bound that lowered an open point is scanned, and those that were kept stay so
pub scan_lowered : (bounds : List Bound) (new : Edge) (p : PlacementForm) (fallen ranks : List ℕ) (done i : ℕ) (x : ℤ) →
    (edge_at bounds i).a < length p.labels →
    IsScan bounds new p ranks done (edge_at bounds i).b (i + 1) →
    x ≡ (place_at p.labels (edge_at bounds i).b +ℤ (edge_at bounds i).c) →
    x <ℤ place_at p.labels (edge_at bounds i).a →
    get_or ranks (edge_at bounds i).a 0 ≡ length p.places →
    IsWork bounds new p.places (set p.labels (edge_at bounds i).a x) (set p.via (edge_at bounds i).a i) ranks done →
    IsFallen (lowered (record p { fallen = fallen }) (edge_at bounds i).a x i) ranks done →
    IsScan bounds new (lowered (record p { fallen = fallen }) (edge_at bounds i).a x i) ranks done (edge_at bounds i).b i
scan_lowered bounds new p fallen ranks done i x t_in scan value broken unranked work listed =
    let e = edge_at bounds i in
    let read = λ (v : ℕ). read_set p.labels e.a x v (pos 0) t_in in
    let s_done : get_or ranks e.b 0 < done = omega (arith, scan.last) in
    let other = λ (v : ℕ) (r : get_or ranks v 0 < done). let far : v ≢ e.a = λ q. let same : get_or ranks v 0 ≡ get_or ranks e.a 0 = ap (λ w. get_or ranks w 0) q in omega (arith, r, same, unranked, work.few) in get_or-set_other p.labels e.a v x (pos 0) far in
    let below = λ (v : ℕ). let le : place_at (set p.labels e.a x) v ≤ℤ place_at p.labels v = elim (read v) [
      | inl h ↦ let same : place_at p.labels v ≡ place_at p.labels e.a = ap (place_at p.labels) h.0 in omega (arith, ints, h.1, same, broken)
      | inr h ↦ omega (arith, ints, h.1)
    ] in le in
    let here : place_at (set p.labels e.a x) e.b ≡ place_at p.labels e.b = other e.b s_done in
    record {
      work = work;
      fallen = listed;
      small = scan.small;
      last = scan.last;
      fell = omega (arith, ints, here, scan.fell);
      low = omega (arith, ints, here, scan.low);
      settled = λ j j_in r far. omega (arith, ints, scan.settled j j_in r far, other (edge_at bounds j).b r, below (edge_at bounds j).a);
      scanned = λ j le j_in out. elim (cases_eq j i) [
        | inl q ↦
            let at : place_at (set p.labels e.a x) e.a ≡ x = elim (read e.a) [ inl h ↦ h.1 | inr h ↦ absurd (h.0 refl) ] in
            let kept : Keeps (place_at (set p.labels e.a x)) e = omega (arith, ints, at, here, value) in
            subst (λ k. Keeps (place_at (set p.labels e.a x)) (edge_at bounds k)) (sym q) kept
        | inr n ↦
            let above : j ≢ i = n in
            let second : place_at (set p.labels e.a x) (edge_at bounds j).b ≡ place_at p.labels (edge_at bounds j).b =
            other (edge_at bounds j).b (omega (arith, s_done, ap (λ w. get_or ranks w 0) out)) in
            omega (arith, ints, scan.scanned j (omega arith) j_in out, second, below (edge_at bounds j).a)
      ];
    }

-- bounds out of other points need no scan
pub scan_skips : (bounds : List Bound) (new : Edge) (p : PlacementForm) (ranks : List ℕ) (done s k h : ℕ) →
    IsScan bounds new p ranks done s k → IsLatest bounds k s h →
    IsScan bounds new p ranks done s h
scan_skips bounds new p ranks done s k h scan latest =
    record {
      work = scan.work;
      fallen = scan.fallen;
      small = scan.small;
      last = scan.last;
      fell = scan.fell;
      low = scan.low;
      settled = scan.settled;
      scanned = λ j le j_in out. elim (cases_lt j k) [
        | inl lt ↦ absurd (latest.newest j le lt out)
        | inr ge ↦ scan.scanned j ge j_in out
      ];
    }

-- once all bounds out of the point are scanned, the labels keep the bounds out of every settled point
pub scan_ends : (bounds : List Bound) (new : Edge) (p : PlacementForm) (ranks : List ℕ) (done s : ℕ) →
    IsScan bounds new p ranks done s 0 → IsRun bounds new p ranks done
scan_ends bounds new p ranks done s scan =
    record {
      work = scan.work;
      fallen = scan.fallen;
      settled = λ j j_in r. elim (cases_eq (edge_at bounds j).b s) [
        | inl e ↦ scan.scanned j (omega arith) j_in e
        | inr n ↦ scan.settled j j_in r n
      ];
    }

-- the point with the greatest fall is open and fell
picked_open : (bounds : List Bound) (new : Edge) (p : PlacementForm) (ranks : List ℕ) (done s : ℕ) →
    IsRun bounds new p ranks done → IsMost p.falls (Some s) →
    (s < length p.places) × (get_or ranks s 0 ≡ length p.places) × (place_at p.labels s <ℤ place_at p.places s)
picked_open bounds new p ranks done s run (s_fall, up, most) =
    let s_small : s < length p.places = omega (arith, s_fall, run.fallen.falls_size) in
    let free : get_or ranks s 0 ≡ length p.places = elim (run.work.ranked s s_small) [
      | inl r ↦ absurd (omega (arith, ints, run.fallen.closed s s_small r, up))
      | inr r ↦ r
    ] in
    (s_small, free, omega (arith, ints, run.fallen.opened s s_small free, up))

-- the work after the open point that fell most was settled
work_picked : (bounds : List Bound) (new : Edge) (p : PlacementForm) (ranks : List ℕ) (done s : ℕ) → new.b < length p.places →
    IsRun bounds new p ranks done → IsMost p.falls (Some s) → s < length p.places → get_or ranks s 0 ≡ length p.places →
    place_at p.labels s <ℤ place_at p.places s →
    IsWork bounds new p.places p.labels p.via (set ranks s done) (done + 1)
work_picked bounds new p ranks done s end_in run (s_fall, up, most) s_small s_free s_fell =
    let places = p.places in
    let labels = p.labels in
    let work = run.work in
    let s_in : s < length ranks = omega (arith, work.ranks_size, s_small) in
    let read = λ (v : ℕ). read_set ranks s done v 0 s_in in
    let apart : new.b ≢ s = λ e. let no : ⊥ = omega (arith, ints, ap (place_at labels) e, ap (place_at places) e, s_fell, work.new_end) in no in
    let end_rank : get_or (set ranks s done) new.b 0 ≡ length places = elim (read new.b) [ inl h ↦ absurd (apart h.0) | inr h ↦ h.1 ∙ work.end_open ] in
    let fewer : open_count (length places) (set ranks s done) + 1 ≡ open_count (length places) ranks =
    open_falls (length places) ranks s done s_in s_free (omega (arith, work.few)) in
    let left : 1 ≤ open_count (length places) (set ranks s done) =
    open_one (length places) (set ranks s done) new.b (omega (arith, length-set ranks s done, work.ranks_size, end_in)) end_rank in
    let more : done + 1 < length places = omega (arith, fewer, left, run.fallen.count) in
    let first = λ (u : ℕ) (u_in : u < length places) (free : get_or ranks u 0 ≡ length places).
    let fact : (place_at places u +ℤ place_at labels s) ≤ℤ (place_at places s +ℤ place_at labels u) =
    omega (arith, ints, run.fallen.opened u u_in free, run.fallen.opened s s_small s_free, most u) in fact in
    record {
      labels_size = work.labels_size;
      via_size = work.via_size;
      ranks_size = length-set ranks s done ∙ work.ranks_size;
      few = more;
      below = work.below;
      ranked = λ v v_in. elim (read v) [
        | inl h ↦ inl (omega (arith, h.1))
        | inr h ↦ elim (work.ranked v v_in) [ inl r ↦ inl (omega (arith, h.1, r)) | inr r ↦ inr (h.1 ∙ r) ]
      ];
      order = λ v u v_in u_in r le. elim (read v) [
        | inl a ↦
            let v_place : place_at places v ≡ place_at places s = ap (place_at places) a.0 in
            let v_label : place_at labels v ≡ place_at labels s = ap (place_at labels) a.0 in
            elim (read u) [
              | inl b ↦ omega (arith, ints, v_place, v_label, ap (place_at places) b.0, ap (place_at labels) b.0)
              | inr b ↦ elim (work.ranked u u_in) [
                | inl c ↦ absurd (omega (arith, a.1, b.1, c, le))
                | inr c ↦ omega (arith, ints, v_place, v_label, first u u_in c)
              ]
            ]
        | inr a ↦ elim (work.ranked v v_in) [
          | inl c ↦ elim (read u) [
            | inl b ↦
                let before : get_or ranks v 0 ≤ get_or ranks s 0 = omega (arith, c, s_free, work.few) in
                omega (arith, ints, work.order v s v_in s_small c before, ap (place_at places) b.0, ap (place_at labels) b.0)
            | inr b ↦ work.order v u v_in u_in c (omega (arith, a.1, b.1, le))
          ]
          | inr c ↦ absurd (omega (arith, a.1, c, r, more))
        ]
      ];
      tree = λ v v_in down. elim (work.tree v v_in down) [
        | inl root ↦ inl root
        | inr hung ↦
            let b = (edge_at bounds (get_or p.via v 0)).b in
            let same : get_or (set ranks s done) b 0 ≡ get_or ranks b 0 = elim (read b) [
              | inl h ↦ absurd (omega (arith, ap (λ w. get_or ranks w 0) h.0, s_free, hung.settled, work.few))
              | inr h ↦ h.1
            ] in
            inr (record {
              which = hung.which;
              point = hung.point;
              settled = omega (arith, same, hung.settled);
              before = elim (read v) [
                | inl h ↦ omega (arith, same, h.1, hung.settled)
                | inr h ↦ omega (arith, same, h.1, hung.before)
              ];
              fell = hung.fell;
              label = hung.label;
            })
      ];
      new_end = work.new_end;
      end_open = end_rank;
      new_start = work.new_start;
      low = λ v v_in down. omega (arith, ints, work.low v v_in down);
    }

-- after the open point that fell most was settled its bounds are to be scanned
pub scan_begins : (bounds : List Bound) (new : Edge) (p : PlacementForm) (ranks : List ℕ) (done s : ℕ) →
    IsInput bounds new p.places → IsRun bounds new p ranks done → IsMost p.falls (Some s) →
    IsScan bounds new (record p { falls = set p.falls s (pos 0) }) (set ranks s done) (done + 1) s (length bounds)
scan_begins bounds new p ranks done s input run most =
    let picked = picked_open bounds new p ranks done s run most in
    let s_small : s < length p.places = picked.0 in
    let s_free : get_or ranks s 0 ≡ length p.places = picked.1 in
    let s_fell : place_at p.labels s <ℤ place_at p.places s = picked.2 in
    let s_in : s < length ranks = omega (arith, run.work.ranks_size, s_small) in
    let read = λ (v : ℕ). read_set ranks s done v 0 s_in in
    record {
      work = work_picked bounds new p ranks done s input.new_edge.second run most s_small s_free s_fell;
      fallen = fallen_closed p ranks done s run.work.ranks_size s_small run.work.few run.work.ranked run.fallen s_free;
      small = s_small;
      last = elim (read s) [ inl h ↦ omega (arith, h.1) | inr h ↦ absurd (h.0 refl) ];
      fell = s_fell;
      low = run.work.low s s_small s_fell;
      settled = λ j j_in r far. elim (read (edge_at bounds j).b) [
        | inl h ↦ absurd (far h.0)
        | inr h ↦
            elim (run.work.ranked (edge_at bounds j).b (input.edges j j_in).second) [
              | inl c ↦ run.settled j j_in c
              | inr c ↦ absurd (omega (arith, h.1, c, r, run.work.few))
            ]
      ];
      scanned = λ j le j_in out. absurd (omega arith);
    }

-- where no open point fell, the labels keep every bound
all_kept : (bounds : List Bound) (new : Edge) (p : PlacementForm) (ranks : List ℕ) (done : ℕ) →
    IsInput bounds new p.places → IsRun bounds new p ranks done → IsMost p.falls None →
    (i : ℕ) → i < length bounds → Keeps (place_at p.labels) (edge_at bounds i)
all_kept bounds new p ranks done input run none i i_in =
    let e = edge_at bounds i in
    elim (run.work.ranked e.b (input.edges i i_in).second) [
      | inl r ↦ run.settled i i_in r
      | inr free ↦
          omega (arith, ints, none e.b, run.fallen.opened e.b (input.edges i i_in).second free, input.kept i i_in, run.work.below e.a)
    ]

-- the edge of a bound is among the edges
edge_among : (bounds : List Bound) (i : ℕ) → i < length bounds → (get_or (edges_of bounds) i (edge_at bounds i) ≡ edge_at bounds i)
edge_among [] i lt = absurd (omega arith)
edge_among (x ∷ xs) zero lt = refl
edge_among (x ∷ xs) (suc i) lt = edge_among xs i (omega arith)

edges_size : (bounds : List Bound) → length (edges_of bounds) ≡ length bounds
edges_size [] = refl
edges_size (x ∷ xs) = ap suc (edges_size xs)

pub edge_contained : (bounds : List Bound) (i : ℕ) → i < length bounds → Contains (edges_of bounds) (edge_at bounds i)
edge_contained bounds i lt = (i, omega (arith, edges_size bounds), edge_among bounds i lt)

-- each point that fell leads to the new bound's first point
reached : (bounds : List Bound) (new : Edge) (places labels : List ℤ) (via ranks : List ℕ) (done : ℕ) →
    IsInput bounds new places → IsWork bounds new places labels via ranks done →
    (limit v : ℕ) → get_or ranks v 0 < limit → v < length places → place_at labels v <ℤ place_at places v →
    Reaches (edges_of bounds) v new.a
reached bounds new places labels via ranks done input work zero v lt v_in down = absurd (omega arith)
reached bounds new places labels via ranks done input work (suc limit) v lt v_in down =
    elim (work.tree v v_in down) [
      | inl root ↦ ([], root.point, tt)
      | inr hung ↦
          let w = get_or via v 0 in
          let e = edge_at bounds w in
          let rest : Reaches (edges_of bounds) e.b new.a =
          reached bounds new places labels via ranks done input work limit e.b (omega (arith, hung.before))
          (input.edges w hung.which).second hung.fell in
          (e ∷ rest.0, (hung.point, rest.1), (edge_contained bounds w hung.which, rest.2))
    ]

-- a run with no open point that fell has labels that keep all
pub run_ends : (bounds : List Bound) (new : Edge) (p : PlacementForm) (ranks : List ℕ) (done : ℕ) →
    IsInput bounds new p.places → IsRun bounds new p ranks done → IsMost p.falls None → IsLowered bounds new p.places p.labels
run_ends bounds new p ranks done input run none =
    record {
      size = run.work.labels_size;
      kept = all_kept bounds new p ranks done input run none;
      new_kept = omega (arith, ints, run.work.new_start, run.work.new_end);
      below = run.work.below;
      reached = λ v v_in down. reached bounds new p.places p.labels p.via ranks done input run.work (get_or ranks v 0 + 1) v (omega arith) v_in down;
      near = λ v v_in down. omega (arith, ints, run.work.low v v_in down, run.work.few, input.few);
    }
