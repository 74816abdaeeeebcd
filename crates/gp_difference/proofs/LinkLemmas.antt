use Rattle.std.proofs.Common.{◌≡◌, ◌≢◌, ℕ, ◌+◌, ◌<◌, ◌≤◌, inl, inr, List, [], ◌∷◌, ◌++◌, length, get_or, set, sym, ap, subst, arith}
use Rattle.std.proofs.lemmas.Bool.{cases_lt}
use Rattle.std.proofs.lemmas.List.{length-set, length_push}
use Rattle.gp_difference.specs.declared.bound.Bound.{Bound}
use Rattle.gp_difference.specs.Bounds.{edge_at, no_bound}
use Rattle.gp_difference.specs.Links.{IsLatest, IsLinked}
use Rattle.gp_difference.proofs.RunLemmas.{read_set}
use Rattle.gp_difference.proofs.CountLemmas.{push_read}

-- the edge of a bound among more bounds
edge_push : (bounds : List Bound) (bound : Bound) (i : ℕ) → i < length bounds → edge_at (bounds ++ bound ∷ []) i ≡ edge_at bounds i
edge_push bounds bound i lt = elim (push_read bounds bound i no_bound (omega arith)) [
  | inl h ↦ ap (λ (b : Bound). b.edge) h.1
  | inr h ↦ absurd (omega (arith, h.0))
]

edge_last : (bounds : List Bound) (bound : Bound) (i : ℕ) → i ≡ length bounds → edge_at (bounds ++ bound ∷ []) i ≡ bound.edge
edge_last bounds bound i e = elim (push_read bounds bound i no_bound (omega arith)) [
  | inl h ↦ absurd (omega (arith, h.0))
  | inr h ↦ ap (λ (b : Bound). b.edge) h.1
]

-- one more bound does not change what is latest below a count
latest_below : (bounds : List Bound) (bound : Bound) (count point latest : ℕ) → count ≤ length bounds → IsLatest bounds count point latest →
    IsLatest (bounds ++ bound ∷ []) count point latest
latest_below bounds bound count point latest fits l =
    record {
      within = l.within;
      out = λ i e. let i_in : i < length bounds = omega (arith, l.within) in rw (edge_push bounds bound i i_in) (l.out i e);
      newest = λ i le lt. let i_in : i < length bounds = omega arith in rw (edge_push bounds bound i i_in) (l.newest i le lt);
    }

-- the new bound is the latest out of its second point, and for other points nothing changes
latest_more : (bounds : List Bound) (bound : Bound) (point latest : ℕ) → point ≢ bound.edge.b → IsLatest bounds (length bounds) point latest →
    IsLatest (bounds ++ bound ∷ []) (length bounds + 1) point latest
latest_more bounds bound point latest far l =
    record {
      within = omega (arith, l.within);
      out = λ i e. let i_in : i < length bounds = omega (arith, l.within) in rw (edge_push bounds bound i i_in) (l.out i e);
      newest = λ i le lt. elim (cases_lt i (length bounds)) [
        | inl i_in ↦ rw (edge_push bounds bound i i_in) (l.newest i le i_in)
        | inr past ↦ let at : i ≡ length bounds = omega arith in rw (edge_last bounds bound i at) (λ e. far (sym e))
      ];
    }

latest_new : (bounds : List Bound) (bound : Bound) → IsLatest (bounds ++ bound ∷ []) (length bounds + 1) bound.edge.b (length bounds + 1)
latest_new bounds bound =
    record {
      within = omega arith;
      out = λ i e. let at : i ≡ length bounds = omega arith in ap (λ (e : _). e.b) (edge_last bounds bound i at);
      newest = λ i le lt. absurd (omega arith);
    }

pub linked_push : (bounds : List Bound) (bound : Bound) (heads links : List ℕ) (link count : ℕ) → IsLinked bounds heads links →
    bound.edge.b < length heads → link ≡ get_or heads bound.edge.b 0 → count ≡ length bounds + 1 →
    IsLinked (bounds ++ bound ∷ []) (set heads bound.edge.b count) (links ++ link ∷ [])
linked_push bounds bound heads links link count l small at is =
    let longer : length (bounds ++ bound ∷ []) ≡ length bounds + 1 = length_push bounds bound in
    let read = λ (v : ℕ). read_set heads bound.edge.b count v 0 small in
    record {
      size = omega (arith, length_push links link, longer, l.size);
      seconds = λ i i_in. rw (length-set heads bound.edge.b count) (elim (cases_lt i (length bounds)) [
        | inl lt ↦ rw (edge_push bounds bound i lt) (l.seconds i lt)
        | inr past ↦ let e : i ≡ length bounds = omega (arith, longer, i_in) in rw (edge_last bounds bound i e) small
      ]);
      latest = λ v v_in. rw longer (elim (read v) [
        | inl h ↦ rw (h.1, is) (subst (λ u. IsLatest (bounds ++ bound ∷ []) (length bounds + 1) u (length bounds + 1)) (sym h.0) (latest_new bounds bound))
        | inr h ↦ rw h.1 (latest_more bounds bound v (get_or heads v 0) h.0 (l.latest v (omega (arith, v_in, length-set heads bound.edge.b count))))
      ]);
      earlier = λ i i_in. elim (push_read links link i 0 (omega (arith, longer, i_in, l.size))) [
        | inl h ↦
            let lt : i < length bounds = omega (arith, h.0, l.size) in
            rw (h.1, edge_push bounds bound i lt) (latest_below bounds bound i (edge_at bounds i).b (get_or links i 0) (omega arith) (l.earlier i lt))
        | inr h ↦
            let e : i ≡ length bounds = omega (arith, h.0, l.size) in
            rw (h.1, edge_last bounds bound i e, at, e)
            (latest_below bounds bound (length bounds) bound.edge.b (get_or heads bound.edge.b 0) (omega arith) (l.latest bound.edge.b small))
      ];
    }
