use Rattle.std.proofs.Common.{◌≡◌, ◌≢◌, ℕ, ℤ, ◌+◌, ◌<◌, ◌≤◌, inl, inr, List, [], ◌∷◌, ◌++◌, length, get_or, set, take, arith, sym, subst}
use Rattle.std.specs.List.{All}
use Rattle.std.proofs.lemmas.List.{take_more_set, length-set}
use Rattle.std.proofs.lemmas.List.Elements.{All-push, All-nil}
use Rattle.gp_clause.specs.declared.edge.Edge.{Edge}
use Rattle.gp_difference.specs.declared.bound.Bound.{Bound}
use Rattle.gp_difference.specs.Bounds.{edge_at, no_bound}
use Rattle.gp_difference.specs.Placement.{PlacementForm}
use Rattle.gp_difference.specs.Lower.{IsInput, IsWork, IsTracing, IsTraced, Tracing, Closing, IsClosed, walk_of}
use Rattle.gp_difference.proofs.TraceLemmas.{traced_first, traced_on, traced_closes}
use Rattle.gp_difference.proofs.TagLemmas.{walk_of-push}

-- the walk so far, written at the head of the buffer
abbrev Written : List Bound → Edge → List ℤ → List ℤ → List ℕ → List ℕ → ℕ → ℕ → Type 0
Written bounds new places labels ranks numbers count v =
    All (λ number. number < length bounds) numbers × IsTracing bounds new places labels ranks (walk_of bounds numbers) count v

written : (bounds : List Bound) (new : Edge) (places labels : List ℤ) (via ranks walk numbers : List ℕ) (done count v : ℕ) →
    IsWork bounds new places labels via ranks done → count ≤ length walk → take count walk ≡ numbers →
    Written bounds new places labels ranks numbers count v → IsTraced bounds new places labels via ranks walk done count v
written bounds new places labels via ranks walk numbers done count v work fits e w =
    record {
      work = work;
      fits = fits;
      numbers = subst (λ ns. All (λ number. number < length bounds) ns) (sym e) w.0;
      tracing = subst (λ ns. IsTracing bounds new places labels ranks (walk_of bounds ns) count v) (sym e) w.1;
    }

pub trace_begins : (bounds : List Bound) (new : Edge) (p : PlacementForm) (closing v : ℕ) → length p.walk ≡ length p.places →
    IsInput bounds new p.places → Closing bounds new p closing → v ≡ (edge_at bounds closing).b →
    Tracing bounds new (record p { walk = set p.walk 0 closing }) 1 v
trace_begins bounds new p closing v size input (ranks, done, h) at =
    let some : 0 < length p.walk = omega (arith, size, h.work.few) in
    let first : Written bounds new p.places p.labels ranks (closing ∷ []) 1 (edge_at bounds closing).b = (
      All-push (λ number. number < length bounds) [] closing (All-nil (λ number. number < length bounds)) h.small,
      traced_first bounds new p ranks done closing input h,
    ) in (
      ranks,
      done,
      written bounds new p.places p.labels p.via ranks (set p.walk 0 closing) (closing ∷ []) done 1 v h.work
          (omega (arith, some, length-set p.walk 0 closing)) (take_more_set p.walk 0 closing some)
          (subst (λ u. Written bounds new p.places p.labels ranks (closing ∷ []) 1 u) (sym at) first),
    )

pub trace_goes_on : (bounds : List Bound) (new : Edge) (p : PlacementForm) (count v next : ℕ) → length p.walk ≡ length p.places →
    IsInput bounds new p.places → Tracing bounds new p count v → get_or p.via v 0 ≢ length bounds →
    next ≡ (edge_at bounds (get_or p.via v 0)).b → Tracing bounds new (record p { walk = set p.walk count (get_or p.via v 0) }) (count + 1) next
trace_goes_on bounds new p count v next size input (ranks, done, h) mark at =
    let w = get_or p.via v 0 in
    let on : IsTracing bounds new p.places p.labels ranks (walk_of bounds (take count p.walk) ++ get_or bounds w no_bound ∷ []) (count + 1) (edge_at bounds w).b =
    traced_on bounds new p.places p.labels p.via ranks (walk_of bounds (take count p.walk)) done count v input h.work h.tracing mark in
    let w_in : w < length bounds = elim (h.work.tree v h.tracing.small h.tracing.fell) [ inl root ↦ absurd (mark root.mark) | inr hung ↦ hung.which ] in
    let some : count < length p.walk = omega (arith, size, on.room) in
    let more : Written bounds new p.places p.labels ranks (take count p.walk ++ w ∷ []) (count + 1) (edge_at bounds w).b = (
      All-push (λ number. number < length bounds) (take count p.walk) w h.numbers w_in,
      subst (λ ws. IsTracing bounds new p.places p.labels ranks ws (count + 1) (edge_at bounds w).b) (sym (walk_of-push bounds (take count p.walk) w)) on,
    ) in (
      ranks,
      done,
      written bounds new p.places p.labels p.via ranks (set p.walk count w) (take count p.walk ++ w ∷ []) done (count + 1) next h.work
          (omega (arith, some, length-set p.walk count w)) (take_more_set p.walk count w some)
          (subst (λ u. Written bounds new p.places p.labels ranks (take count p.walk ++ w ∷ []) (count + 1) u) (sym at) more),
    )

-- where the walk comes back to the new bound, it is closed
pub trace_ends : (bounds : List Bound) (new : Edge) (p : PlacementForm) (count v : ℕ) →
    Tracing bounds new p count v → get_or p.via v 0 ≡ length bounds → IsClosed bounds new p.walk count
trace_ends bounds new p count v (ranks, done, h) mark =
    record {
      fits = h.fits;
      numbers = h.numbers;
      closes = traced_closes bounds new p.places p.labels p.via ranks (walk_of bounds (take count p.walk)) done count v h.work h.tracing mark;
    }
