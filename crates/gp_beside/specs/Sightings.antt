-- The file `confirmed`: a line for each instance that was seen to happen.
use Rattle.std.specs.Prelude.{ℕ, ◌&&◌, Bool, List, [], ◌∷◌, Option, Some, None, Result, Ok, if◌then◌else◌, codes}
use Rattle.std.specs.Str.{bytes_eq}
use Rattle.gp_base.specs.Results.{or_refusal, then_rest}
use Rattle.gp_place.specs.declared.beside.Sighting.{Sighting}
use Rattle.gp_text.specs.Numbers.{small_number_of}
use Rattle.gp_text.specs.Spelling.{joined}
use Rattle.gp_text.specs.declared.line.Line.{Line}
use Rattle.gp_beside.specs.declared.fault.Cause.{Cause}
use Rattle.gp_beside.specs.declared.fault.Cause.TheVariants.{BadLine}

-- a sighting of an instance of these numbers, where they are numbers
abbrev pub sighting_with : Option ℕ → List ℕ → Option ℕ → List ℕ → Option Sighting
sighting_with (Some window) property (Some instance) text =
    Some (record { window = window; property = property; instance = instance; text = text })
sighting_with (Some window) property None text = None
sighting_with None property instance text = None

-- whether these are the words that stand between what names an instance
abbrev pub are_keywords : List ℕ → List ℕ → List ℕ → Bool
are_keywords one other last =
    bytes_eq one (codes "window") && bytes_eq other (codes "property") && bytes_eq last (codes "instance")

-- `window K property NAME instance I`, and behind it what was seen, at least one word
abbrev pub sighting_of : List (List ℕ) → Option Sighting
sighting_of (one ∷ window ∷ other ∷ property ∷ last ∷ instance ∷ seen ∷ words) =
    if are_keywords one other last
    then sighting_with (small_number_of window) property (small_number_of instance) (joined (seen ∷ words))
    else None
sighting_of words = None

-- the sightings of lines, or the first line that is none
abbrev pub sightings_of : List Line → Result (List Sighting) Cause
sightings_of [] = Ok []
sightings_of (line ∷ lines) = then_rest (or_refusal (BadLine line.number) (sighting_of line.words)) (sightings_of lines)

-- what the bytes of a file tell that has these lines
abbrev pub sightings_told : List ℕ → List Line → Result (List Sighting) Cause
sightings_told bytes lines = sightings_of lines
