use Rattle.std.proofs.Common.{◌≡◌, ◌++◌, drop, filter, map}
use Rattle.gp_json.specs.Json.{elements_of, elements_text}
use Rattle.gp_view.specs.Answered.{form_of}
use Rattle.gp_view.specs.Text.{is_of}
use Rattle.gp_values.specs.Instances.{sighting_value}
use Rattle.gp_values.proofs.instance.put_each_sighting.Given as goal

abbrev pub invariant-loop-sighting : goal.invariant-loop-sighting
invariant-loop-sighting l =
    l.text.items ++ elements_text l.before (elements_of (map sighting_value (filter (is_of (form_of l.answered)) (drop l.sighting-index l.sightings))))
    ≡ l.initial.text.items ++ elements_text 0 (elements_of (map sighting_value (filter (is_of (form_of l.answered)) l.sightings)))
