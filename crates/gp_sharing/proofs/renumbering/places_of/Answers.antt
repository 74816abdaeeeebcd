use Rattle.std.proofs.Common.{◌≡◌, ◌+◌, [], List, Option, ℕ, drop, subst, sym}
use Rattle.gp_sharing.specs.Moving.{PlacesFit, place_of, places_after}
use Rattle.gp_sharing.proofs.Walks.{fit_more, place_more}
use Rattle.gp_sharing.proofs.renumbering.places_of.Goals as goal

pub loop-step-preserved : goal.loop-step-preserved
loop-step-preserved c =
    let sizes = c.args.sizes in
    let list = c.args.list.now in
    let steps = c.front_of-step-items.result.now in
    let i = c.loop-step.step-index in
    let at : c.in_ok-place.place ≡ place_of c.args.sizes c.args.list.now c.loop-step.places.items c.step-item.result =
    subst (λ (ps : List (Option ℕ)). c.in_ok-place.place ≡ place_of c.args.sizes c.args.list.now ps c.step-item.result) c.as_slice.ensures.value c.in_ok-place.ensures in
    subst
    (λ (items : List (Option ℕ)). (places_after c.args.sizes c.args.list.now items (drop (c.loop-step.step-index + 1) c.front_of-step-items.result.now) ≡ places_after c.args.sizes c.args.list.now [] c.front_of-step-items.result.now)
    × PlacesFit c.args.sizes items)
    (sym c.in_ok-push.ensures.items) (
      place_more sizes list c.loop-step.places.items c.in_ok-place.place steps c.step-item.result i (places_after sizes list [] steps) c.loop-step-test.true c.step-item.is at c.loop-step.invariant.0,
      fit_more sizes list c.loop-step.places.items c.in_ok-place.place c.step-item.result c.loop-step.invariant.1 at c.requires,
    )
