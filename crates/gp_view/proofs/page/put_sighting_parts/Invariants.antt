use Rattle.std.proofs.Common.{◌≡◌, ◌++◌, drop}
use Rattle.gp_view.specs.Answered.{form_of}
use Rattle.gp_view.specs.Page.{sightings_part}
use Rattle.gp_view.proofs.page.put_sighting_parts.Given as goal

abbrev pub invariant-loop-sighting : goal.invariant-loop-sighting
invariant-loop-sighting l = l.text.items ++ sightings_part (drop l.sighting-index l.sightings) (form_of l.answered) ≡ l.initial.text.items ++ sightings_part l.sightings (form_of l.answered)
