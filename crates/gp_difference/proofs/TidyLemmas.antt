use Rattle.std.proofs.Common.{◌≡◌, ℕ, ◌<◌, ◌≤◌, inl, inr, List, length, get_or, replicate, sym, ap, subst, ◌∙◌, arith, ℤ, pos}
use Rattle.std.proofs.lemmas.Int.{ints}
use Rattle.std.specs.List.{All}
use Rattle.std.proofs.lemmas.Bool.{cases_lt}
use Rattle.std.proofs.lemmas.List.{length-replicate, get_or-replicate, get_or_past, ext_get_or}
use Rattle.gp_clause.specs.declared.edge.Edge.{Edge}
use Rattle.gp_difference.specs.declared.bound.Bound.{Bound}
use Rattle.gp_difference.specs.Places.{place_at}
use Rattle.gp_difference.specs.Placement.{PlacementForm, IsUntidy, IsAtRest, ListsMoved, DifferFrom}
use Rattle.gp_difference.specs.Lower.{IsWork, IsFallen, Closing, IsLowered}

-- after a run only the fallen points are untidy
pub run_untidy : (bounds : List Bound) (new : Edge) (p : PlacementForm) (ranks : List ℕ) (done : ℕ) →
    IsWork bounds new p.places p.labels p.via ranks done → IsFallen p ranks done → IsUntidy p 0
run_untidy bounds new p ranks done work fallen =
    record {
      labels_size = work.labels_size;
      via_size = work.via_size;
      falls_size = fallen.falls_size;
      small = fallen.small;
      tidy = λ v v_in. elim (fallen.listed v v_in) [
        | inr stands ↦ inl stands
        | inl same ↦ inr (
          same,
          elim (work.ranked v v_in) [
            | inl r ↦ fallen.closed v v_in r
            | inr free ↦ omega (arith, ints, fallen.opened v v_in free, same)
          ],
        )
      ];
    }

-- once all points are done the two lists are one, and no fall is kept
pub done_to : (points : List ℕ) (index : ℕ) (from to falls : List ℤ) → length to ≡ length from → DifferFrom points index from to falls →
    length points ≤ index → to ≡ from
done_to points index from to falls size differ end = ext_get_or (pos 0) to from size (λ v v_in.
    elim (differ v (omega (arith, v_in, size))) [
      | inl stands ↦ absurd (omega (arith, stands.1, stands.2, end))
      | inr rest ↦ rest.0
    ])

pub done_falls : (points : List ℕ) (index : ℕ) (from to falls : List ℤ) → length falls ≡ length from → DifferFrom points index from to falls →
    length points ≤ index → falls ≡ replicate (length from) (pos 0)
done_falls points index from to falls size differ end = ext_get_or (pos 0) falls (replicate (length from) (pos 0)) (size ∙ sym (length-replicate (length from) (pos 0))) (λ v v_in.
    let at : v < length from = omega (arith, v_in, size) in
    elim (differ v at) [
      | inl stands ↦ absurd (omega (arith, stands.1, stands.2, end))
      | inr rest ↦ rest.1 ∙ sym (get_or-replicate (length from) v (pos 0) (pos 0) at)
    ])

-- the buffer of a cycle does not matter
pub untidy_walk : (p : PlacementForm) (walk : List ℕ) → IsUntidy p 0 → IsUntidy (record p { walk = walk }) 0
untidy_walk p walk was =
    record { labels_size = was.labels_size; via_size = was.via_size; falls_size = was.falls_size; small = was.small; tidy = was.tidy }

pub closing_untidy : (bounds : List Bound) (new : Edge) (p : PlacementForm) (i : ℕ) → Closing bounds new p i → IsUntidy p 0
closing_untidy bounds new p i (ranks, done, h) = run_untidy bounds new p ranks done h.work h.fallen

-- labels that were kept are places that are not being moved, and the fallen points list those that moved
pub kept_rest : (bounds : List Bound) (new : Edge) (p l k : PlacementForm) → IsAtRest p → l.places ≡ p.places → length l.walk ≡ length p.walk →
    IsLowered bounds new l.places l.labels → IsUntidy l 0 → k ≡ record l { places = l.labels; falls = replicate (length l.places) (pos 0) } →
    IsLowered bounds new p.places k.places × IsAtRest k × All (λ (point : ℕ). point < length k.places) k.fallen × ListsMoved k.fallen p.places k.places
kept_rest bounds new p l k rest same walk lowered untidy is =
    let size = untidy.labels_size in
    subst (λ (r : PlacementForm). IsLowered bounds new p.places r.places × IsAtRest r × All (λ (point : ℕ). point < length r.places) r.fallen × ListsMoved r.fallen p.places r.places) (sym is) (
      subst (λ ps. IsLowered bounds new ps l.labels) same lowered,
      record {
        labels_rest = λ i. l.labels;
        falls_rest = ap (λ n. replicate n (pos 0)) (sym size);
        via_size = untidy.via_size ∙ sym size;
        walk_size = walk ∙ rest.walk_size ∙ sym (ap length same) ∙ sym size;
      },
      subst (λ n. (k : ℕ) (d : ℕ) → k < length l.fallen → get_or l.fallen k d < n) (sym size) untidy.small,
      λ v. elim (cases_lt v (length l.places)) [
        | inl v_in ↦ elim (untidy.tidy v v_in) [
          | inl stands ↦ inl stands
          | inr h ↦ inr (h.0 ∙ ap (λ ps. place_at ps v) same)
        ]
        | inr past ↦ inr (get_or_past l.labels v (pos 0) (omega (arith, past, size)) ∙ sym (get_or_past l.places v (pos 0) past) ∙ ap (λ ps. place_at ps v) same)
      ],
    )

-- places that were restored are not being moved
pub restored_rest : (p l k : PlacementForm) → IsAtRest p → l.places ≡ p.places → length l.walk ≡ length p.walk → IsUntidy l 0 →
    k ≡ record l { labels = l.places; falls = replicate (length l.places) (pos 0) } → (k.places ≡ p.places) × IsAtRest k
restored_rest p l k rest same walk untidy is =
    subst (λ (r : PlacementForm). (r.places ≡ p.places) × IsAtRest r) (sym is) (
      same,
      record {
        labels_rest = λ i. l.places;
        falls_rest = λ i. replicate (length l.places) (pos 0);
        via_size = untidy.via_size;
        walk_size = walk ∙ rest.walk_size ∙ sym (ap length same);
      },
    )
