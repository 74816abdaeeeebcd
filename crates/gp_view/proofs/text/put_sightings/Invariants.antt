use Rattle.std.proofs.Common.{◌≡◌, ◌++◌, drop}
use Rattle.gp_text.specs.Spelling.{spelling}
use Rattle.gp_view.specs.Answered.{form_of}
use Rattle.gp_view.specs.Text.{sighting_lines}
use Rattle.gp_view.proofs.text.put_sightings.Given as goal

abbrev pub invariant-loop-sighting : goal.invariant-loop-sighting
invariant-loop-sighting l = l.text.items ++ spelling (sighting_lines (drop l.sighting-index l.sightings) (form_of l.answered)) ≡ l.initial.text.items ++ spelling (sighting_lines l.sightings (form_of l.answered))
