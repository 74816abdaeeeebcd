use Rattle.std.proofs.Common.{◌≡◌, ◌+◌, ◌^◌, ◌<◌, [], List, Option, ℕ, length, drop, subst, sym, arith}
use Rattle.gp_sharing.specs.Moving.{PlacesFit, place_of, with_moved, with_steps}
use Rattle.gp_sharing.proofs.Walks.{fit_more, step_left, step_more}
use Rattle.gp_sharing.proofs.sharing.share_steps.Goals as goal

pub loop-step-preserved : goal.loop-step-preserved
loop-step-preserved c =
    let sizes = c.args.sizes in
    let list = c.loop-step.list in
    let places : List (Option ℕ) = c.loop-step.places.items in
    let next = c.share_step.new.list in
    let steps = c.args.steps.now in
    let i = c.loop-step.step-index in
    let made : c.share_step.new.list ≡ with_moved c.args.sizes c.loop-step.list c.loop-step.places.items c.step-item.result =
    subst (λ (ps : List (Option ℕ)). c.share_step.new.list ≡ with_moved c.args.sizes c.loop-step.list ps c.step-item.result) c.as_slice.ensures.value c.in_ok-place.ensures.list in
    let at : c.in_ok-place.place ≡ place_of c.args.sizes c.share_step.new.list c.loop-step.places.items c.step-item.result =
    subst (λ (ps : List (Option ℕ)). c.in_ok-place.place ≡ place_of c.args.sizes c.share_step.new.list ps c.step-item.result) c.as_slice.ensures.value c.in_ok-place.ensures.place in
    let left : sizes.clauses + length next + length (drop (i + 1) steps) < 2 ^ 31 =
    step_left sizes list c.loop-step.places.items steps c.step-item.result i next c.loop-step-test.true made c.loop-step.invariant.1.1 in
    subst
    (λ (items : List (Option ℕ)). (with_steps c.args.sizes c.share_step.new.list items (drop (c.loop-step.step-index + 1) c.args.steps.now) ≡ with_steps c.args.sizes c.args.list.now [] c.args.steps.now)
    × (PlacesFit c.args.sizes items × (c.args.sizes.clauses + length c.share_step.new.list + length (drop (c.loop-step.step-index + 1) c.args.steps.now) < 2 ^ 31)))
    (sym c.in_ok-push.ensures.items) (
      step_more sizes list c.loop-step.places.items c.in_ok-place.place steps c.step-item.result i (with_steps c.args.sizes c.args.list.now [] c.args.steps.now) next c.loop-step-test.true c.step-item.is made at c.loop-step.invariant.0,
      (fit_more sizes next c.loop-step.places.items c.in_ok-place.place c.step-item.result c.loop-step.invariant.1.0 at (omega (arith, left)), left),
    )
