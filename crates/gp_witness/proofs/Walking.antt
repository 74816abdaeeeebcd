-- The walk over the segments of a window.
use Rattle.std.proofs.Common.{◌≡◌, ℕ, zero, suc, ◌+◌, ◌<◌, ◌^◌, ◌++◌, List, [], ◌∷◌, length, get_or, drop, arith, refl, sym, ap, ◌∙◌, subst, add-one, append_assoc}
use Rattle.std.specs.Prelude.{flat_map, slice_get, unwrap_or}
use Rattle.std.proofs.Math.Seq.{drop-cons}
use Rattle.std.proofs.lemmas.List.Concat.{flat_map-append}
use Rattle.gp_trace.specs.declared.event.Event.{Event}
use Rattle.gp_constraint.specs.declared.point.Point.{Point}
use Rattle.gp_constraint.specs.Points.{points_from, points_in}
use Rattle.gp_window.specs.Formed.{IsFormed}
use Rattle.gp_window.specs.WindowForm.{WindowForm}

segment_got : (segments : List (List Event)) (k : ℕ) (d : List Event) → k < length segments → unwrap_or (slice_get segments k) [] ≡ get_or segments k d
segment_got [] k d within = absurd (omega arith)
segment_got (segment ∷ segments) zero d within = refl
segment_got (segment ∷ segments) (suc k) d within = segment_got segments k d (omega arith)

-- each segment is short
short_segment : (window : WindowForm) → IsFormed window → (k : ℕ) (d : List Event) → k < length window.segments → length (get_or window.segments k d) < 2 ^ 32
short_segment window formed k d within =
    subst (λ (events : List Event). length events < 2 ^ 32) (segment_got window.segments k d within) (formed.few (suc k))

-- the points of one segment, then those of the others
one_segment : {X : Type 0} (f : Point → List X) (thread number k : ℕ) (segments : List (List Event)) (d : List Event) → k < length segments
    → flat_map f (points_from thread number (drop k segments))
    ≡ flat_map f (points_in thread 0 number (get_or segments k d)) ++ flat_map f (points_from (thread + 1) (number + length (get_or segments k d)) (drop (k + 1) segments))
one_segment f thread number k segments d within =
    rw (add-one, drop-cons segments k d) (rw add-one (flat_map-append f (points_in thread 0 number (get_or segments k d)) (points_from (suc thread) (number + length (get_or segments k d)) (drop (suc k) segments))))

-- the next segment of a window is short
pub short_here : (window : WindowForm) → IsFormed window → (segments : List (List Event)) → segments ≡ window.segments
    → (k : ℕ) (segment : List Event) → k < length segments → segment ≡ get_or segments k segment → length segment < 2 ^ 32
short_here window formed segments same k segment within is =
    let inside : k < length window.segments = subst (λ (s : List (List Event)). k < length s) same within in
    let there : get_or window.segments k segment ≡ segment = ap (λ (s : List (List Event)). get_or s k segment) (sym same) ∙ sym is in
    subst (λ (s : List Event). length s < 2 ^ 32) there (short_segment window formed k segment inside)

-- the walk goes on by a segment
pub one_more : {X : Type 0} (f : Point → List X) (segments : List (List Event)) (k number : ℕ) (segment : List Event) (before after whole : List X)
    → k < length segments → segment ≡ get_or segments k segment
    → before ++ flat_map f (points_from (k + 1) number (drop k segments)) ≡ whole
    → after ≡ before ++ flat_map f (points_in (k + 1) 0 number segment)
    → after ++ flat_map f (points_from (k + 1 + 1) (number + length segment) (drop (k + 1) segments)) ≡ whole
one_more {X} f segments k number segment before after whole within is told step =
    let here : List X = flat_map f (points_in (k + 1) 0 number segment) in
    let rest : List X = flat_map f (points_from (k + 1 + 1) (number + length segment) (drop (k + 1) segments)) in
    let parts : flat_map f (points_from (k + 1) number (drop k segments)) ≡ here ++ rest =
    one_segment f (k + 1) number k segments segment within
    ∙ ap (λ (s : List Event). flat_map f (points_in (k + 1) 0 number s) ++ flat_map f (points_from (k + 1 + 1) (number + length s) (drop (k + 1) segments))) (sym is) in
    ap (λ (xs : List X). xs ++ rest) step ∙ append_assoc before here rest ∙ ap (λ (xs : List X). before ++ xs) (sym parts) ∙ told
