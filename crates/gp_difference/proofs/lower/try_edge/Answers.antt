use Rattle.std.proofs.Common.{◌≡◌, ◌≢◌, ℕ, ℤ, ◌<◌, ◌+ℤ◌, ◌<ℤ◌, List, [], length, replicate, refl, sym, ap, subst, ◌∙◌, w64, to_z, of_z, arith}
use Rattle.std.proofs.lemmas.Int.{ints}
use Rattle.std.proofs.lemmas.List.{length-replicate}
use Rattle.gp_clause.specs.declared.edge.Edge.{Edge}
use Rattle.gp_difference.specs.declared.bound.Bound.{Bound}
use Rattle.gp_difference.specs.Places.{place_at}
use Rattle.gp_difference.specs.Placement.{PlacementForm, IsAtRest, IsUntidy, lowered, with_fallen}
use Rattle.gp_difference.specs.Lower.{IsInput, Running, IsClosed}
use Rattle.gp_difference.proofs.RelaxLemmas.{sum_is}
use Rattle.gp_difference.proofs.TraceLemmas.{quiet, run_begins}
use Rattle.gp_difference.proofs.TidyLemmas.{closing_untidy, untidy_walk, kept_rest, restored_rest}
use Rattle.gp_difference.proofs.lower.try_edge.Goals as goal

-- a run begins where no point fell
starts : (bounds : List Bound) (new : Edge) (p b q : PlacementForm) (mark : ℕ) (x : ℤ) → IsAtRest p → b ≡ record p { fallen = [] } → mark ≡ length bounds →
    q ≡ lowered (with_fallen b new.a) new.a x mark → IsInput bounds new p.places → new.a ≢ new.b →
    x ≡ (place_at p.places new.b +ℤ new.c) → x <ℤ place_at p.places new.a → Running bounds new q 0
starts bounds new p b q mark x rest begun at is input apart value broken =
    let still : b ≡ quiet p.places p.via p.walk =
    begun ∙ (λ i. record { places = p.places; labels = rest.labels_rest i; via = p.via; fallen = []; falls = rest.falls_rest i; walk = p.walk }) in
    let all : q ≡ lowered (with_fallen (quiet p.places p.via p.walk) new.a) new.a x (length bounds) =
    is ∙ ap (λ r. lowered (with_fallen r new.a) new.a x mark) still ∙ ap (λ m. lowered (with_fallen (quiet p.places p.via p.walk) new.a) new.a x m) at in
    subst (λ r. Running bounds new r 0) (sym all)
    (replicate (length p.places) (length p.places), run_begins bounds new p.places p.via p.walk x input rest.via_size apart value broken)

-- a sum of the second point's place and the edge's number
sum_at : (bounds : List Bound) (new : Edge) (places : List ℤ) (place : ℤ) → IsInput bounds new places → place ≡ place_at places new.b →
    to_z w64 (of_z w64 (to_z w64 (of_z w64 place) +ℤ to_z w64 (of_z w64 new.c))) ≡ (place_at places new.b +ℤ new.c)
sum_at bounds new places place input at =
    sum_is place new.c (omega (arith, ints, at, input.bottom new.b)) (omega (arith, ints, at, input.top new.b)) input.new_edge.low input.new_edge.high
    ∙ ap (λ l. l +ℤ new.c) at

-- a point that may fall in a run that begins
record MayFall (p : PlacementForm) (v : ℕ) : Type 0 where
  places : v < length p.places
  labels : v < length p.labels
  via : v < length p.via
  falls : v < length p.falls
  room : length p.fallen < length p.places

may_fall : (p b : PlacementForm) (v : ℕ) → IsAtRest p → b ≡ record p { fallen = [] } → v < length p.places → MayFall b v
may_fall p b v rest begun lt = subst (λ (r : PlacementForm). MayFall r v) (sym begun) (record {
  places = lt;
  labels = subst (λ (ls : List ℤ). v < length ls) (sym rest.labels_rest) lt;
  via = omega (arith, rest.via_size);
  falls = subst (λ (fs : List ℤ). v < length fs) (sym rest.falls_rest) (rw length-replicate lt);
  room = omega arith;
})

pub place-requires : goal.place-requires
place-requires c = c.requires.input.new_edge.second

pub place-requires-2 : goal.place-requires-2
place-requires-2 c = c.requires.input.new_edge.first

pub fall-requires-clause-places : goal.fall-requires-clause-places
fall-requires-clause-places c = (may_fall c.args.run.now c.begin.new.self c.args.new.a c.requires.rest c.begin.ensures c.requires.input.new_edge.first).places

pub fall-requires-clause-labels : goal.fall-requires-clause-labels
fall-requires-clause-labels c = (may_fall c.args.run.now c.begin.new.self c.args.new.a c.requires.rest c.begin.ensures c.requires.input.new_edge.first).labels

pub fall-requires-clause-via : goal.fall-requires-clause-via
fall-requires-clause-via c = (may_fall c.args.run.now c.begin.new.self c.args.new.a c.requires.rest c.begin.ensures c.requires.input.new_edge.first).via

pub fall-requires-clause-falls : goal.fall-requires-clause-falls
fall-requires-clause-falls c = (may_fall c.args.run.now c.begin.new.self c.args.new.a c.requires.rest c.begin.ensures c.requires.input.new_edge.first).falls

pub fall-requires-clause-room : goal.fall-requires-clause-room
fall-requires-clause-room c = (may_fall c.args.run.now c.begin.new.self c.args.new.a c.requires.rest c.begin.ensures c.requires.input.new_edge.first).room

pub fall-requires-clause-top : goal.fall-requires-clause-top
fall-requires-clause-top c = rw c.begin.ensures (c.requires.input.top c.args.new.a)

pub lower-requires-clause-input : goal.lower-requires-clause-input
lower-requires-clause-input c = rw (c.fall.ensures, c.begin.ensures) c.requires.input

pub lower-requires-clause-points : goal.lower-requires-clause-points
lower-requires-clause-points c = rw (c.fall.ensures, c.begin.ensures) c.requires.points

pub keep-requires : goal.keep-requires
keep-requires c = c.in-None.ensures.gives.1

pub trace-count-requires-clause-size : goal.trace-count-requires-clause-size
trace-count-requires-clause-size c = rw (c.in-Some.ensures.stays.same_walk, c.in-Some.ensures.stays.same_places, c.fall.ensures, c.begin.ensures) c.requires.rest.walk_size

pub trace-count-requires-clause-input : goal.trace-count-requires-clause-input
trace-count-requires-clause-input c = rw (c.in-Some.ensures.stays.same_places, c.fall.ensures, c.begin.ensures) c.requires.input

pub trace-count-requires-clause-closing : goal.trace-count-requires-clause-closing
trace-count-requires-clause-closing c = c.in-Some.ensures.gives

pub returns-then-place-label : goal.returns-then-place-label
returns-then-place-label c =
    let places = c.args.run.now.places in
    let new = c.args.new in
    let input = c.requires.input in
    let sum = sum_at c.args.bounds.now.bounds new places c.place.result input c.place.ensures in
    (refl, omega (arith, ints, sum, c.place-2.ensures, input.bottom new.a, input.top new.a, input.bottom new.b, input.top new.b, input.new_edge.low, input.new_edge.high, c.if-place-label.true))

pub fall-requires-clause-bottom : goal.fall-requires-clause-bottom
fall-requires-clause-bottom c =
    let new = c.args.new in
    let input = c.requires.input in
    let sum = sum_at c.args.bounds.now.bounds new c.args.run.now.places c.place.result input c.place.ensures in
    omega (arith, ints, sum, input.bottom new.b, input.new_edge.low)

pub lower-requires-clause-run : goal.lower-requires-clause-run
lower-requires-clause-run c =
    let places = c.args.run.now.places in
    let new = c.args.new in
    let input = c.requires.input in
    let sum = sum_at c.args.bounds.now.bounds new places c.place.result input c.place.ensures in
    starts c.args.bounds.now.bounds new c.args.run.now c.begin.new.self c.fall.new.self c.len.result _ c.requires.rest c.begin.ensures c.len.ensures c.fall.ensures
    input c.if-new.false sum
    (omega (arith, ints, sum, c.place-2.ensures, input.bottom new.a, input.top new.a, input.bottom new.b, input.top new.b, input.new_edge.low, input.new_edge.high, c.if-place-label.false))

-- the buffers that a run leaves as they were
same_places : (p b f l : PlacementForm) → b ≡ record p { fallen = [] } → f.places ≡ b.places → l.places ≡ f.places → l.places ≡ p.places
same_places p b f l begun fell same = same ∙ fell ∙ ap (λ (r : PlacementForm). r.places) begun

same_walk : (p b f l : PlacementForm) → b ≡ record p { fallen = [] } → f.walk ≡ b.walk → l.walk ≡ f.walk → l.walk ≡ p.walk
same_walk p b f l begun fell same = same ∙ fell ∙ ap (λ (r : PlacementForm). r.walk) begun

pub restore-requires : goal.restore-requires
restore-requires c =
    let l = c.lower.new.run in
    subst (λ (r : PlacementForm). IsUntidy r 0) (sym c.trace-count.ensures.same)
    (untidy_walk l c.trace-count.new.run.walk (closing_untidy c.args.bounds.now.bounds c.args.new l c.in-Some.number c.in-Some.ensures.gives))

pub returns-in-None : goal.returns-in-None
returns-in-None c =
    let p = c.args.run.now in
    let new = c.args.new in
    let input = c.requires.input in
    let sum = sum_at c.args.bounds.now.bounds new p.places c.place.result input c.place.ensures in
    let l = c.lower.new.run in
    let f = c.fall.new.self in
    let b = c.begin.new.self in
    let places = same_places p b f l c.begin.ensures (ap (λ (r : PlacementForm). r.places) c.fall.ensures) c.in-None.ensures.stays.same_places in
    let walk = same_walk p b f l c.begin.ensures (ap (λ (r : PlacementForm). r.walk) c.fall.ensures) c.in-None.ensures.stays.same_walk in
    let rest = kept_rest c.args.bounds.now.bounds new p l c.keep.new.self c.requires.rest places (ap (λ (ws : List ℕ). length ws) walk)
    c.in-None.ensures.gives.0 c.in-None.ensures.gives.1 c.keep.ensures in (
      λ kept. omega (arith, ints, kept, sum, c.place-2.ensures, input.bottom new.a, input.top new.a, input.bottom new.b, input.top new.b, input.new_edge.low, input.new_edge.high, c.if-place-label.false),
      rest.0,
      rest.1,
      rest.2,
      rest.3,
    )

pub returns-in-Some : goal.returns-in-Some
returns-in-Some c =
    let p = c.args.run.now in
    let l = c.lower.new.run in
    let t = c.trace-count.new.run in
    let f = c.fall.new.self in
    let b = c.begin.new.self in
    let same = c.trace-count.ensures.same in
    let places = ap (λ (r : PlacementForm). r.places) same ∙ same_places p b f l c.begin.ensures (ap (λ (r : PlacementForm). r.places) c.fall.ensures) c.in-Some.ensures.stays.same_places in
    let walk = same_walk p b f l c.begin.ensures (ap (λ (r : PlacementForm). r.walk) c.fall.ensures) c.in-Some.ensures.stays.same_walk in
    let untidy : IsUntidy t 0 = subst (λ (r : PlacementForm). IsUntidy r 0) (sym same)
    (untidy_walk l t.walk (closing_untidy c.args.bounds.now.bounds c.args.new l c.in-Some.number c.in-Some.ensures.gives)) in
    let rest = restored_rest p t c.restore.new.self c.requires.rest places (c.trace-count.ensures.size ∙ ap (λ (ws : List ℕ). length ws) walk) untidy c.restore.ensures in (
      rest.0,
      rest.1,
      subst (λ (ws : List ℕ). IsClosed c.args.bounds.now.bounds c.args.new ws c.trace-count.result) (sym (ap (λ (r : PlacementForm). r.walk) c.restore.ensures)) c.trace-count.ensures.closed,
    )
