use Rattle.std.proofs.Common.{◌≡◌, ℕ, ◌+◌, ◌-◌, ◌^◌, ◌<◌, ◌≤◌, inl, inr, suc, zero, Bool, true, false, List, [], ◌∷◌, ◌++◌, length, map, get_or, take, drop, refl, sym, ap, subst, ◌∙◌, arith, ℤ, pos, ◌+ℤ◌, ◌-ℤ◌, ◌≤ℤ◌, ◌<ℤ◌, vec_capacity}
use Rattle.std.specs.List.{Contains}
use Rattle.std.proofs.lemmas.Int.{ints, by_lt_z}
use Rattle.std.proofs.lemmas.Bool.{cases_lt, cases_Bool}
use Rattle.std.proofs.lemmas.List.{get_or_past, take-append-drop, length-append, length_push, get_or_append_left}
use Rattle.std.proofs.lemmas.List.Elements.{All-from_get_or, All-map}
use Rattle.gp_clause.specs.declared.edge.Edge.{Edge}
use Rattle.gp_clause.specs.Edge.{Keeps}
use Rattle.gp_difference.specs.declared.bound.Bound.{Bound}
use Rattle.gp_difference.specs.declared.graph.Graph.TheInside.{Inside}
use Rattle.gp_difference.specs.contracts.graph.Graph.{the_view}
use Rattle.gp_clause.specs.Walk.{IsAmong, HasNegativeCycle}
use Rattle.gp_difference.specs.Places.{place_at, KeepsAll, IsEdgeOf, AreFresh, AreLow}
use Rattle.gp_difference.specs.Bounds.{edge_at, edges_of, no_bound, untagged, AreAmong, Closes}
use Rattle.gp_difference.specs.Graph.{GraphForm, HasPlaces, MovesPlaces, Reaches, all_edges}
use Rattle.gp_difference.specs.Placement.{PlacementForm, IsAtRest}
use Rattle.gp_difference.specs.Inside.{IsSound}
use Rattle.gp_difference.specs.Settle.{Marks, AreMoved, NoneIsBelow}
use Rattle.gp_difference.specs.Anew.{AreAnew}
use Rattle.gp_clause.specs.WalkLaws.{none_negative}
use Rattle.gp_difference.proofs.SettleLemmas.{fresh_at, fresh_marks}
use Rattle.gp_difference.proofs.WalkLemmas.{IsWalk-push, weight-push, IsAmong-push}
use Rattle.gp_difference.proofs.CountLemmas.{push_read}

-- fixed edges and kept bounds together are all bounds
pub whole : (fixed : ℕ) (bounds : List Bound) → map untagged (edges_of (take fixed bounds)) ≡ take fixed bounds →
    map untagged (edges_of (take fixed bounds)) ++ drop fixed bounds ≡ bounds
whole fixed bounds h = ap (λ bs. bs ++ drop fixed bounds) h ∙ take-append-drop fixed bounds

pub all_keep : (places : List ℤ) (bounds : List Bound) → ((i : ℕ) → i < length bounds → Keeps (place_at places) (edge_at bounds i)) →
    KeepsAll places (edges_of bounds)
all_keep places bounds kept =
    All-map (Keeps (place_at places)) (λ (b : Bound). b.edge) bounds
    (All-from_get_or (λ (b : Bound). Keeps (place_at places) b.edge) bounds no_bound kept)

-- a sound graph is feasible
pub sound_feasible : (g : Inside) → IsSound g → HasPlaces (the_view g)
sound_feasible g sound =
    let keeps : KeepsAll g.placement.places (all_edges (the_view g)) =
    subst (λ bs. KeepsAll g.placement.places (edges_of bs)) (sym (whole g.fixed g.bounds.bounds sound.untagged))
    (all_keep g.placement.places g.bounds.bounds sound.kept) in
    record {
      placed = refl;
      keeps = keeps;
      no_cycle = none_negative (place_at g.placement.places) (all_edges (the_view g)) keeps;
    }

-- what is contained stays so in a longer list
contains_more : {X : Type 0} (xs ys : List X) (x : X) → Contains xs x → Contains (xs ++ ys) x
contains_more xs ys x c = (c.0, omega (arith, c.1, length-append xs ys), get_or_append_left xs ys x c.0 c.1 ∙ c.2)

contains_last : {X : Type 0} (xs : List X) (x : X) → Contains (xs ++ x ∷ []) x
contains_last xs x = (
  length xs,
  omega (arith, length_push xs x),
  elim (push_read xs x (length xs) x (omega arith)) [
    | inl h ↦ absurd (omega (arith, h.0))
    | inr h ↦ h.1
  ],
)

contains_edge : (bounds : List Bound) (bound : Bound) → Contains bounds bound → Contains (edges_of bounds) bound.edge
contains_edge bounds bound c = edge_read bounds bound c.0 c.1 c.2
  where
    edge_read : (bounds : List Bound) (bound : Bound) (k : ℕ) → k < length bounds → get_or bounds k bound ≡ bound → Contains (edges_of bounds) bound.edge
    edge_read bounds bound k lt e = (k, omega (arith, size bounds), read bounds bound k lt ∙ ap (λ (b : Bound). b.edge) e)
      where
        size : (bounds : List Bound) → length (edges_of bounds) ≡ length bounds
        size [] = refl
        size (x ∷ xs) = ap (λ n. suc n) (size xs)

        read : (bounds : List Bound) (bound : Bound) (k : ℕ) → k < length bounds → get_or (edges_of bounds) k bound.edge ≡ (get_or bounds k bound).edge
        read [] bound k lt = absurd (omega arith)
        read (x ∷ xs) bound zero lt = refl
        read (x ∷ xs) bound (suc k) lt = read xs bound k (omega arith)

among_more : (bounds : List Bound) (edge : Edge) (walk : List Bound) → AreAmong bounds walk → IsAmong (edges_of bounds ++ edge ∷ []) (edges_of walk)
among_more bounds edge [] among = tt
among_more bounds edge (bound ∷ walk) among =
    (contains_more (edges_of bounds) (edge ∷ []) bound.edge (contains_edge bounds bound among.0), among_more bounds edge walk among.1)

-- a walk that closes a cycle with a new edge is a negative cycle of all of them
pub closes_negative : (bounds : List Bound) (edge : Edge) (walk : List Bound) → Closes bounds edge walk → HasNegativeCycle (edges_of bounds ++ edge ∷ [])
closes_negative bounds edge walk closes = (
  edge.b,
  edges_of walk ++ edge ∷ [],
  record {
    closed = IsWalk-push edge.b (edges_of walk) edge.a edge closes.leads refl;
    among = IsAmong-push (edges_of bounds ++ edge ∷ []) (edges_of walk) edge (among_more bounds edge walk closes.among) (contains_last (edges_of bounds) edge);
    negative = omega (arith, ints, closes.negative, weight-push (edges_of walk) edge);
  },
)

-- the mark of low places, both ways
not_low_mark : (places : List ℤ) (low : Bool) → Marks places low → (AreLow places → ⊥) → low ≡ false
not_low_mark places low marks none = elim (cases_Bool low) [ inl e ↦ absurd (none (marks.yes e)) | inr e ↦ e ]

low_mark : (places : List ℤ) (low : Bool) → Marks places low → AreLow places → low ≡ true
low_mark places low marks some = elim (cases_Bool low) [
  | inl e ↦ e
  | inr e ↦ absurd (omega (arith, ints, some.2, marks.no e some.0))
]

-- how settling an edge moves the places of a graph
pub moves : (g : Inside) (edge : Edge) (after : List ℤ) (low : Bool) → IsSound g → IsEdgeOf (length g.placement.places) edge → length after ≡ length g.placement.places →
    AreMoved g.bounds.bounds edge g.placement.places g.low after low → MovesPlaces (the_view g) edge after
moves g edge after low sound is_edge size moved =
    let before = g.placement.places in
    record {
      unchanged = λ no keeps. moved.unchanged (not_low_mark before g.low sound.low no) keeps;
      falls = λ no v changed.
          let mark = not_low_mark before g.low sound.low no in
          let fell : place_at after v <ℤ place_at before v =
          by_lt_z (place_at after v) (place_at before v) (λ lt. lt)
          (λ ge. let same : place_at after v ≡ place_at before v = omega (arith, ints, ge, moved.below mark v) in absurd (changed same)) in (
            fell,
            elim (cases_lt v (length before)) [
              | inl v_in ↦ subst (λ bs. Reaches (edges_of bs) v edge.a) (sym (whole g.fixed g.bounds.bounds sound.untagged)) (moved.reached mark v v_in fell)
              | inr past ↦ absurd (changed (get_or_past after v (pos 0) (omega (arith, past, size)) ∙ sym (get_or_past before v (pos 0) past)))
            ],
          );
      near = λ no low none.
          let mark = not_low_mark before g.low sound.low no in
          All-from_get_or (λ (p : ℤ). (low -ℤ pos (2 ^ 28)) ≤ℤ p) after (pos 0) (λ v v_in.
          let old = none v (pos 0) (omega (arith, v_in, size)) in
          by_lt_z (place_at after v) (place_at before v)
          (λ fell. omega (arith, ints, moved.near mark v (omega (arith, v_in, size)) fell, none edge.b (pos 0) is_edge.second))
          (λ ge. omega (arith, ints, old, ge)));
      anew = λ some. moved.anew (low_mark before g.low sound.low some);
    }

-- a graph is sound again once a bound was settled and added
pub sound_added : (g h : Inside) (bound : Bound) → IsSound g → h.bounds.bounds ≡ g.bounds.bounds ++ bound ∷ [] → h.bounds.points ≡ g.bounds.points →
    IsEdgeOf (length g.placement.places) bound.edge → AreMoved g.bounds.bounds bound.edge g.placement.places g.low h.placement.places h.low →
    h.fixed ≤ length h.bounds.bounds → map untagged (edges_of (take h.fixed h.bounds.bounds)) ≡ take h.fixed h.bounds.bounds →
    (length h.bounds.bounds - h.fixed) + h.room < 2 ^ 32 → h.room ≤ h.bounds.room →
    length h.placement.places ≡ length g.placement.places → IsAtRest h.placement → length g.placement.places + 1 ≤ vec_capacity h.tags → IsSound h
sound_added g h bound sound bounds points is_edge moved fixed tags_none marks room size rest tags =
    let longer : length (g.bounds.bounds ++ bound ∷ []) ≡ length g.bounds.bounds + 1 = length_push g.bounds.bounds bound in
    let all = ap length bounds in
    let each = λ (P : Edge → Type 0) (old : (i : ℕ) → i < length g.bounds.bounds → P (edge_at g.bounds.bounds i)) (new : P bound.edge) (i : ℕ) (i_in : i < length h.bounds.bounds).
    let at : P (edge_at (g.bounds.bounds ++ bound ∷ []) i) = elim (push_read g.bounds.bounds bound i no_bound (omega (arith, i_in, all, longer))) [
      | inl q ↦ subst (λ (b : Bound). P b.edge) (sym q.1) (old i q.0)
      | inr q ↦ subst (λ (b : Bound). P b.edge) (sym q.1) new
    ] in
    subst (λ bs. P (edge_at bs i)) (sym bounds) at in
    record {
      fixed = fixed;
      untagged = tags_none;
      marks = marks;
      room = room;
      points = points ∙ sound.points ∙ sym size;
      few = omega (arith, size, sound.few);
      edges = each (λ e. IsEdgeOf (length h.placement.places) e) (λ i i_in. subst (λ n. IsEdgeOf n (edge_at g.bounds.bounds i)) (sym size) (sound.edges i i_in)) (subst (λ n. IsEdgeOf n bound.edge) (sym size) is_edge);
      kept = each (λ e. Keeps (place_at h.placement.places) e) moved.kept moved.edge_kept;
      bottom = moved.bottom;
      top = moved.top;
      low = moved.marks;
      rest = rest;
      tags = omega (arith, size, tags);
    }

-- graphs with the same fields are the same
pub same_graph : (p p' : ℕ) (e e' : List Edge) (k k' : List Bound) (r r' : ℕ) (pl pl' : List ℤ) (c c' : List ℕ) →
    p ≡ p' → e ≡ e' → k ≡ k' → r ≡ r' → pl ≡ pl' → c ≡ c' →
    (let g : GraphForm = record { points = p; edges = e; kept = k; room = r; places = pl; cycle = c } in
    let g' : GraphForm = record { points = p'; edges = e'; kept = k'; room = r'; places = pl'; cycle = c' } in g ≡ g')
same_graph p p' e e' k k' r r' pl pl' c c' a b d f h i = cc

-- a graph is sound again once its places were made anew
pub sound_fresh : (g : Inside) (placement : PlacementForm) → IsSound g → AreAnew g.placement.places placement.places → IsAtRest placement →
    IsSound (record g { low = false; placement = placement })
sound_fresh g placement sound anew rest =
    record {
      fixed = sound.fixed;
      untagged = sound.untagged;
      marks = sound.marks;
      room = sound.room;
      points = sound.points ∙ sym anew.size;
      few = omega (arith, anew.size, sound.few);
      edges = λ i i_in. subst (λ n. IsEdgeOf n (edge_at g.bounds.bounds i)) (sym anew.size) (sound.edges i i_in);
      kept = λ i i_in. anew.keeps (edge_at g.bounds.bounds i) (sound.edges i i_in) (sound.kept i i_in);
      bottom = λ v. let f = fresh_at placement.places anew.fresh v in omega (arith, ints, f.0);
      top = λ v. let f = fresh_at placement.places anew.fresh v in f.1;
      low = fresh_marks placement.places anew.fresh;
      rest = rest;
      tags = omega (arith, anew.size, sound.tags);
    }

-- places of a sound graph that are not below minus 2 ^ 28 are fresh
pub sound_near : (g : Inside) → IsSound g → (limit : ℤ) → (limit +ℤ pos (2 ^ 28)) ≡ pos 0 → NoneIsBelow g.placement.places limit → AreFresh g.placement.places
sound_near g sound limit is none =
    All-from_get_or (λ (p : ℤ). (pos 0 ≤ℤ (p +ℤ pos (2 ^ 28))) × (p ≤ℤ pos 0)) g.placement.places (pos 0) (λ v v_in.
    let low : pos 0 ≤ℤ (place_at g.placement.places v +ℤ pos (2 ^ 28)) = omega (arith, ints, none v v_in, is) in
    (low, sound.top v))
