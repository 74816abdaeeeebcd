use Rattle.std.proofs.Common.{◌≡◌, [], drop}
use Rattle.gp_sharing.specs.Moving.{PlacesFit, places_after}
use Rattle.gp_sharing.proofs.renumbering.places_of.Given as goal

abbrev pub invariant-loop-step : goal.invariant-loop-step
invariant-loop-step l =
    (places_after l.sizes l.list l.places.items (drop l.step-index l.step-items) ≡ places_after l.sizes l.list [] l.step-items) × PlacesFit l.sizes l.places.items
