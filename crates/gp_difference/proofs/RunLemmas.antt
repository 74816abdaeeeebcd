use Rattle.std.proofs.Common.{◌≡◌, ◌≢◌, ℕ, ◌+◌, ◌<◌, ◌≤◌, ◌⊎◌, inl, inr, List, length, get_or, set, sym, ap, ◌∙◌, arith, ℤ, pos, ◌+ℤ◌, ◌≤ℤ◌, ◌<ℤ◌}
use Rattle.std.proofs.lemmas.Int.{ints}
use Rattle.std.proofs.lemmas.Bool.{cases_eq}
use Rattle.std.proofs.lemmas.Grind.{get_or-set_at}
use Rattle.std.proofs.lemmas.List.{length-set, get_or-set_other}
use Rattle.gp_clause.specs.declared.edge.Edge.{Edge}
use Rattle.gp_clause.specs.Edge.{Keeps}
use Rattle.gp_difference.specs.declared.bound.Bound.{Bound}
use Rattle.gp_difference.specs.Places.{place_at}
use Rattle.gp_difference.specs.Bounds.{edge_at}
use Rattle.gp_difference.specs.Placement.{PlacementForm}
use Rattle.gp_difference.specs.Lower.{IsInput, IsRoot, IsHung, IsWork, IsScan}

-- what a list reads at an index after a write
pub read_set : {X : Type 0} (xs : List X) (i : ℕ) (y : X) (j : ℕ) (d : X) → i < length xs →
    ((j ≡ i) × (get_or (set xs i y) j d ≡ y)) ⊎ ((j ≢ i) × (get_or (set xs i y) j d ≡ get_or xs j d))
read_set xs i y j d lt =
    elim (cases_eq j i) [ inl e ↦ inl (e, get_or-set_at xs i j y d e lt) | inr n ↦ inr (n, get_or-set_other xs i j y d n) ]

-- a bound out of the point settled last that is broken leads to an open point
pub unsettled : (bounds : List Bound) (new : Edge) (p : PlacementForm) (ranks : List ℕ) (done i : ℕ) →
    IsInput bounds new p.places → i < length bounds →
    IsScan bounds new p ranks done (edge_at bounds i).b (i + 1) →
    (place_at p.labels (edge_at bounds i).b +ℤ (edge_at bounds i).c) <ℤ place_at p.labels (edge_at bounds i).a →
    get_or ranks (edge_at bounds i).a 0 ≡ length p.places
unsettled bounds new p ranks done i input i_in scan broken =
    let e = edge_at bounds i in
    let t_in : e.a < length p.places = (input.edges i i_in).first in
    let kept : Keeps (place_at p.places) e = input.kept i i_in in
    elim (scan.work.ranked e.a t_in) [
      | inl r ↦
          let le : get_or ranks e.a 0 ≤ get_or ranks e.b 0 = omega (arith, r, scan.last) in
          absurd (omega (arith, ints, scan.work.order e.a e.b t_in scan.small r le, kept, broken))
      | inr r ↦ r
    ]

-- how a point hangs, from the number of the bound that lowered it
hung_by : (bounds : List Bound) (places labels : List ℤ) (via ranks : List ℕ) (done v w : ℕ) →
    get_or via v 0 ≡ w → w < length bounds → (edge_at bounds w).a ≡ v →
    get_or ranks (edge_at bounds w).b 0 < done → get_or ranks (edge_at bounds w).b 0 < get_or ranks v 0 →
    place_at labels (edge_at bounds w).b <ℤ place_at places (edge_at bounds w).b →
    place_at labels v ≡ (place_at labels (edge_at bounds w).b +ℤ (edge_at bounds w).c) →
    IsHung bounds places labels via ranks done v
hung_by bounds places labels via ranks done v w q which point settled before fell label =
    record {
      which = rw q which;
      point = rw q point;
      settled = rw q settled;
      before = rw q before;
      fell = rw q fell;
      label = rw q label;
    }

-- how a point hangs or stands at the root, after a write elsewhere
tree_kept : (bounds : List Bound) (new : Edge) (places labels labels' : List ℤ) (via via' ranks : List ℕ) (done v : ℕ) →
    get_or via' v 0 ≡ get_or via v 0 → place_at labels' v ≡ place_at labels v →
    ((u : ℕ) → get_or ranks u 0 < done → place_at labels' u ≡ place_at labels u) →
    IsRoot bounds new places labels via v ⊎ IsHung bounds places labels via ranks done v →
    IsRoot bounds new places labels' via' v ⊎ IsHung bounds places labels' via' ranks done v
tree_kept bounds new places labels labels' via via' ranks done v mark label other (inl root) =
    inl (record { point = root.point; mark = mark ∙ root.mark; label = label ∙ root.label })
tree_kept bounds new places labels labels' via via' ranks done v mark label other (inr hung) =
    let w = get_or via v 0 in
    let parent : place_at labels' (edge_at bounds w).b ≡ place_at labels (edge_at bounds w).b = other _ hung.settled in
    inr (hung_by bounds places labels' via' ranks done v w mark hung.which hung.point hung.settled hung.before
    (omega (arith, ints, parent, hung.fell)) (omega (arith, ints, parent, hung.label, label)))

-- the work after an open point was lowered by a bound out of the point settled last
pub lowered_work : (bounds : List Bound) (new : Edge) (p : PlacementForm) (ranks : List ℕ) (done i : ℕ) (x : ℤ) →
    IsInput bounds new p.places → i < length bounds →
    IsScan bounds new p ranks done (edge_at bounds i).b (i + 1) →
    x ≡ (place_at p.labels (edge_at bounds i).b +ℤ (edge_at bounds i).c) →
    x <ℤ place_at p.labels (edge_at bounds i).a →
    (edge_at bounds i).a ≢ new.b →
    get_or ranks (edge_at bounds i).a 0 ≡ length p.places →
    IsWork bounds new p.places (set p.labels (edge_at bounds i).a x) (set p.via (edge_at bounds i).a i) ranks done
lowered_work bounds new p ranks done i x input i_in scan value broken away unranked =
    let e = edge_at bounds i in
    let work = scan.work in
    let t_in : e.a < length p.places = (input.edges i i_in).first in
    let kept : Keeps (place_at p.places) e = input.kept i i_in in
    let c_low : pos 0 ≤ℤ (e.c +ℤ pos 4096) = (input.edges i i_in).low in
    let l_in : e.a < length p.labels = omega (arith, work.labels_size) in
    let v_in : e.a < length p.via = omega (arith, work.via_size) in
    let read = λ (v : ℕ). read_set p.labels e.a x v (pos 0) l_in in
    let mark = λ (v : ℕ). read_set p.via e.a i v 0 v_in in
    let other = λ (v : ℕ) (r : get_or ranks v 0 < done). let far : v ≢ e.a = λ q. let same : get_or ranks v 0 ≡ get_or ranks e.a 0 = ap (λ w. get_or ranks w 0) q in omega (arith, r, same, unranked, work.few) in get_or-set_other p.labels e.a v x (pos 0) far in
    record {
      labels_size = length-set p.labels e.a x ∙ work.labels_size;
      via_size = length-set p.via e.a i ∙ work.via_size;
      ranks_size = work.ranks_size;
      few = work.few;
      below = λ v. elim (read v) [
        | inl h ↦ let same : place_at p.labels v ≡ place_at p.labels e.a = ap (place_at p.labels) h.0 in omega (arith, ints, h.1, same, broken, work.below v)
        | inr h ↦ omega (arith, ints, h.1, work.below v)
      ];
      ranked = work.ranked;
      order = λ v u vi ui r le. elim (read u) [
        | inl h ↦
            let first = work.order v e.b vi scan.small r (omega (arith, r, scan.last)) in
            let same : place_at p.places u ≡ place_at p.places e.a = ap (place_at p.places) h.0 in
            omega (arith, ints, other v r, h.1, same, first, kept, value)
        | inr h ↦ omega (arith, ints, other v r, h.1, work.order v u vi ui r le)
      ];
      tree = λ v vi fell. elim (read v) [
        | inl h ↦
            let here : get_or (set p.via e.a i) v 0 ≡ i = get_or-set_at p.via e.a v i 0 h.0 v_in in
            let rank : get_or ranks v 0 ≡ length p.places = ap (λ w. get_or ranks w 0) h.0 ∙ unranked in
            let before : get_or ranks e.b 0 < done = omega (arith, scan.last) in
            let parent : place_at (set p.labels e.a x) e.b ≡ place_at p.labels e.b = other e.b before in
            inr (hung_by bounds p.places (set p.labels e.a x) (set p.via e.a i) ranks done v i here i_in (sym h.0) before
            (omega (arith, rank, before, work.few)) (omega (arith, ints, parent, scan.fell))
            (omega (arith, ints, h.1, value, parent)))
        | inr h ↦
            let mark : get_or (set p.via e.a i) v 0 ≡ get_or p.via v 0 = get_or-set_other p.via e.a v i 0 h.0 in
            tree_kept bounds new p.places p.labels (set p.labels e.a x) p.via (set p.via e.a i) ranks done v mark h.1 other
            (work.tree v vi (omega (arith, ints, h.1, fell)))
      ];
      new_end = get_or-set_other p.labels e.a new.b x (pos 0) (λ q. away (sym q)) ∙ work.new_end;
      end_open = work.end_open;
      new_start = elim (read new.a) [
        | inl h ↦ let same : place_at p.labels new.a ≡ place_at p.labels e.a = ap (place_at p.labels) h.0 in omega (arith, ints, h.1, same, broken, work.new_start)
        | inr h ↦ omega (arith, ints, h.1, work.new_start)
      ];
      low = λ v vi fell. elim (read v) [
        | inl h ↦ omega (arith, ints, h.1, value, scan.low, c_low)
        | inr h ↦ omega (arith, ints, h.1, work.low v vi (omega (arith, ints, h.1, fell)))
      ];
    }
