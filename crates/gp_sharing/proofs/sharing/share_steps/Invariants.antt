use Rattle.std.proofs.Common.{◌≡◌, ◌+◌, ◌^◌, ◌<◌, [], drop, length}
use Rattle.gp_sharing.specs.Moving.{PlacesFit, with_steps}
use Rattle.gp_sharing.proofs.sharing.share_steps.Given as goal

abbrev pub invariant-loop-step : goal.invariant-loop-step
invariant-loop-step l =
    (with_steps l.sizes l.list l.places.items (drop l.step-index l.steps) ≡ with_steps l.sizes l.fn.list [] l.steps)
    × (PlacesFit l.sizes l.places.items
    × (l.sizes.clauses + length l.list + length (drop l.step-index l.steps) < 2 ^ 31))
