-- The sightings of lines, read one after another.
use Rattle.std.proofs.Common.{◌≡◌, List, [], ◌∷◌, ◌++◌, ap, ◌∙◌, sym}
use Rattle.std.specs.Prelude.{Option, Some, Result}
use Rattle.gp_base.specs.ResultLaws.{prefix_then}
use Rattle.gp_base.specs.Results.{or_refusal, then_rest, with_prefix}
use Rattle.gp_place.specs.declared.beside.Sighting.{Sighting}
use Rattle.gp_text.specs.declared.line.Line.{Line}
use Rattle.gp_beside.specs.declared.fault.Cause.{Cause}
use Rattle.gp_beside.specs.declared.fault.Cause.TheVariants.{BadLine}
use Rattle.gp_beside.specs.Sightings.{sighting_of, sightings_of}

-- the sighting of one more line goes from what is left to what was read
pub one_more : (prefix : List Sighting) (sighting : Sighting) (line : Line) (lines : List Line) (total : Result (List Sighting) Cause)
    → sighting_of line.words ≡ Some sighting
    → with_prefix prefix (sightings_of (line ∷ lines)) ≡ total
    → with_prefix (prefix ++ sighting ∷ []) (sightings_of lines) ≡ total
one_more prefix sighting line lines total is all =
    prefix_then prefix sighting (sightings_of lines)
    ∙ ap (λ (found : Option Sighting). with_prefix prefix (then_rest (or_refusal (BadLine line.number) found) (sightings_of lines))) (sym is)
    ∙ all
