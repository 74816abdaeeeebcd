use Rattle.std.proofs.Common.{◌≡◌, ◌≢◌, ℕ, ◌+◌, ◌<◌, ◌⊎◌, inl, inr, suc, zero, List, [], ◌∷◌, ◌++◌, length, get_or, set, replicate, refl, sym, ap, subst, ◌∙◌, arith, ℤ, pos, ◌+ℤ◌, ◌<ℤ◌}
use Rattle.std.proofs.lemmas.Int.{ints}
use Rattle.std.proofs.lemmas.Grind.{get_or-set_at}
use Rattle.std.proofs.lemmas.List.{length-set, length_push, length-map, length-replicate, get_or-set_other, get_or-replicate, get_or_default, map-append}
use Rattle.std.specs.List.{Contains}
use Rattle.std.proofs.lemmas.List.Elements.{All-nil}
use Rattle.gp_clause.specs.declared.edge.Edge.{Edge}
use Rattle.gp_difference.specs.declared.bound.Bound.{Bound}
use Rattle.gp_difference.specs.Places.{place_at}
use Rattle.gp_clause.specs.Walk.{IsWalk}
use Rattle.gp_difference.specs.Bounds.{edge_at, edges_of, no_bound, start_at, AreAmong, Closes}
use Rattle.gp_difference.specs.Placement.{PlacementForm, lowered, with_fallen}
use Rattle.gp_difference.specs.Lower.{IsInput, IsWork, IsRun, IsFallen, IsClosing, IsTracing}
use Rattle.gp_difference.proofs.RunLemmas.{read_set}
use Rattle.gp_difference.proofs.CountLemmas.{still_all, open_all}
use Rattle.gp_difference.proofs.FallenLemmas.{fallen_fell}
use Rattle.gp_difference.proofs.WalkLemmas.{IsWalk-push, weight-push, start_at-push, IsSimple-push}

edges_of-push : (walk : List Bound) (bound : Bound) → edges_of (walk ++ bound ∷ []) ≡ edges_of walk ++ bound.edge ∷ []
edges_of-push walk bound = map-append (λ (b : Bound). b.edge) walk (bound ∷ [])

AreAmong-push : (bounds walk : List Bound) (bound : Bound) → AreAmong bounds walk → Contains bounds bound → AreAmong bounds (walk ++ bound ∷ [])
AreAmong-push bounds [] bound among c = (c, tt)
AreAmong-push bounds (first ∷ walk) bound among c = (among.0, AreAmong-push bounds walk bound among.1 c)

bound_contained : (bounds : List Bound) (w : ℕ) → w < length bounds → Contains bounds (get_or bounds w no_bound)
bound_contained bounds w w_in = (w, w_in, get_or_default bounds w (get_or bounds w no_bound) no_bound w_in)

-- the walk begins with the bound that closes the cycle
pub traced_first : (bounds : List Bound) (new : Edge) (p : PlacementForm) (ranks : List ℕ) (done i : ℕ) →
    IsInput bounds new p.places → IsClosing bounds new p ranks done i →
    IsTracing bounds new p.places p.labels ranks (get_or bounds i no_bound ∷ []) 1 (edge_at bounds i).b
traced_first bounds new p ranks done i input closing =
    record {
      size = refl;
      small = (input.edges i closing.small).second;
      leads = (closing.start, refl);
      among = (bound_contained bounds i closing.small, tt);
      simple = λ j k lt k_in. absurd (omega arith);
      less = omega (arith, ints, closing.less);
      fell = closing.fell;
      above = first_above;
      room = omega (arith, closing.settled, closing.work.few);
    }
  where
    first_above : (k : ℕ) → k < length (get_or bounds i no_bound ∷ []) →
        (get_or ranks (edge_at bounds i).b 0 < get_or ranks (start_at (edges_of (get_or bounds i no_bound ∷ [])) k) 0)
        ⊎ (start_at (edges_of (get_or bounds i no_bound ∷ [])) k ≡ new.b)
    first_above zero k_in = inr closing.start
    first_above (suc k) k_in = absurd (omega arith)

-- the start of each edge so far is not the point that the walk came to
starts_apart : (bounds : List Bound) (new : Edge) (places labels : List ℤ) (via ranks : List ℕ) (walk : List Bound) (done count v : ℕ) →
    IsWork bounds new places labels via ranks done → IsTracing bounds new places labels ranks walk count v →
    (k : ℕ) → k < length (edges_of walk) → start_at (edges_of walk) k ≢ v
starts_apart bounds new places labels via ranks walk done count v work tracing k k_in same =
    elim (tracing.above k (omega (arith, k_in, length-map walk (λ (b : Bound). b.edge)))) [
      | inl lt ↦ omega (arith, lt, ap (λ w. get_or ranks w 0) same)
      | inr e ↦
          let at : v ≡ new.b = sym same ∙ e in
          omega (arith, ints, tracing.fell, work.new_end, ap (place_at labels) at, ap (place_at places) at)
    ]

-- the walk goes on by the bound that lowered its end
pub traced_on : (bounds : List Bound) (new : Edge) (places labels : List ℤ) (via ranks : List ℕ) (walk : List Bound) (done count v : ℕ) →
    IsInput bounds new places → IsWork bounds new places labels via ranks done →
    IsTracing bounds new places labels ranks walk count v → get_or via v 0 ≢ length bounds →
    IsTracing bounds new places labels ranks (walk ++ get_or bounds (get_or via v 0) no_bound ∷ []) (count + 1) (edge_at bounds (get_or via v 0)).b
traced_on bounds new places labels via ranks walk done count v input work tracing mark =
    elim (work.tree v tracing.small tracing.fell) [
      | inl root ↦ absurd (mark root.mark)
      | inr hung ↦
          let w = get_or via v 0 in
          let e = edge_at bounds w in
          let longer : edges_of (walk ++ get_or bounds w no_bound ∷ []) ≡ edges_of walk ++ e ∷ [] = edges_of-push walk (get_or bounds w no_bound) in
          let apart = starts_apart bounds new places labels via ranks walk done count v work tracing in
          let size : length (edges_of walk) ≡ length walk = length-map walk (λ (b : Bound). b.edge) in
          record {
            size = length_push walk (get_or bounds w no_bound) ∙ ap (λ n. n + 1) tracing.size;
            small = (input.edges w hung.which).second;
            leads = rw longer (IsWalk-push new.b (edges_of walk) v e tracing.leads hung.point);
            among = AreAmong-push bounds walk (get_or bounds w no_bound) tracing.among (bound_contained bounds w hung.which);
            simple = rw longer (IsSimple-push (edges_of walk) e tracing.simple (λ k k_in same. apart k k_in (same ∙ hung.point)));
            less = rw longer (omega (arith, ints, weight-push (edges_of walk) e, tracing.less, hung.label));
            fell = hung.fell;
            above = λ k k_in. rw longer (elim (start_at-push (edges_of walk) e k (omega (arith, size, k_in, length_push walk (get_or bounds w no_bound)))) [
              | inl h ↦ elim (tracing.above k (omega (arith, h.0, size))) [
                | inl lt ↦ inl (rw h.1 (omega (arith, lt, hung.before)))
                | inr q ↦ inr (h.1 ∙ q)
              ]
              | inr h ↦ inl (rw h.1 (omega (arith, hung.before, ap (λ u. get_or ranks u 0) hung.point)))
            ]);
            room = omega (arith, tracing.room, hung.before);
          }
    ]

-- at the root the walk closes a cycle with the new bound
pub traced_closes : (bounds : List Bound) (new : Edge) (places labels : List ℤ) (via ranks : List ℕ) (walk : List Bound) (done count v : ℕ) →
    IsWork bounds new places labels via ranks done → IsTracing bounds new places labels ranks walk count v →
    get_or via v 0 ≡ length bounds → Closes bounds new walk
traced_closes bounds new places labels via ranks walk done count v work tracing mark =
    elim (work.tree v tracing.small tracing.fell) [
      | inl root ↦ record {
        leads = subst (λ u. IsWalk new.b (edges_of walk) u) root.point tracing.leads;
        among = tracing.among;
        negative = omega (arith, ints, tracing.less, root.label);
        simple = IsSimple-push (edges_of walk) new tracing.simple
            (λ k k_in same. starts_apart bounds new places labels via ranks walk done count v work tracing k k_in (same ∙ sym root.point));
      }
      | inr hung ↦ absurd (omega (arith, hung.which, mark))
    ]

-- places that are not being moved, in these buffers
abbrev pub quiet : List ℤ → List ℕ → List ℕ → PlacementForm
quiet places via walk = record {
  places = places;
  labels = places;
  via = via;
  fallen = [];
  falls = replicate (length places) (pos 0);
  walk = walk;
}

pub quiet_fallen : (places : List ℤ) (via walk : List ℕ) → IsFallen (quiet places via walk) (replicate (length places) (length places)) 0
quiet_fallen places via walk =
    record {
      falls_size = length-replicate (length places) (pos 0);
      room = omega (arith, still_all places);
      small = All-nil (λ (point : ℕ). point < length places);
      listed = λ v v_in. inl refl;
      opened = λ v v_in free. let e : place_at (replicate (length places) (pos 0)) v ≡ pos 0 = get_or-replicate (length places) v (pos 0) (pos 0) v_in in omega (arith, ints, e);
      closed = λ v v_in r. absurd (omega (arith, r));
      count = omega (arith, open_all (length places) (length places));
    }

-- how a run begins: only the new bound's first point is lowered
pub run_begins : (bounds : List Bound) (new : Edge) (places : List ℤ) (via walk : List ℕ) (x : ℤ) →
    IsInput bounds new places → length via ≡ length places → new.a ≢ new.b →
    x ≡ (place_at places new.b +ℤ new.c) → x <ℤ place_at places new.a →
    IsRun bounds new (lowered (with_fallen (quiet places via walk) new.a) new.a x (length bounds)) (replicate (length places) (length places)) 0
run_begins bounds new places via walk x input via_size apart value broken =
    let n = length places in
    let a_in : new.a < n = input.new_edge.first in
    let a_via : new.a < length via = omega (arith, via_size, a_in) in
    let rank = λ (v : ℕ) (v_in : v < n). get_or-replicate n v n 0 v_in in
    let read = λ (v : ℕ). read_set places new.a x v (pos 0) a_in in
    let others = λ (v : ℕ) (down : place_at (set places new.a x) v <ℤ place_at places v). let here : v ≡ new.a = elim (read v) [ inl h ↦ h.0 | inr h ↦ absurd (omega (arith, ints, h.1, down)) ] in here in
    let at : place_at (set places new.a x) new.a ≡ x = get_or-set_at places new.a new.a x (pos 0) refl a_in in
    let end : place_at (set places new.a x) new.b ≡ place_at places new.b = get_or-set_other places new.a new.b x (pos 0) (λ e. apart (sym e)) in
    record {
      work = record {
        labels_size = length-set places new.a x;
        via_size = length-set via new.a (length bounds) ∙ via_size;
        ranks_size = length-replicate n n;
        few = omega (arith, a_in);
        below = λ v. elim (read v) [
          | inl h ↦ omega (arith, ints, h.1, broken, ap (place_at places) h.0)
          | inr h ↦ omega (arith, ints, h.1)
        ];
        ranked = λ v v_in. inr (rank v v_in);
        order = λ v u v_in u_in r le. absurd (omega (arith, r));
        tree = λ v v_in down.
            let here : v ≡ new.a = others v down in
            inl (record {
              point = here;
              mark = get_or-set_at via new.a v (length bounds) 0 here a_via;
              label = ap (place_at (set places new.a x)) here ∙ at ∙ value;
            });
        new_end = end;
        end_open = rank new.b input.new_edge.second;
        new_start = omega (arith, ints, at, value);
        low = λ v v_in down. omega (arith, ints, ap (place_at (set places new.a x)) (others v down), at, value, input.new_edge.low);
      };
      fallen = fallen_fell (quiet places via walk) (replicate n n) 0 new.a (length bounds) x refl a_in (omega (arith, a_in)) (quiet_fallen places via walk)
          (rank new.a a_in) (omega (arith, ints)) broken;
      settled = λ i i_in r. absurd (omega (arith, r));
    }
