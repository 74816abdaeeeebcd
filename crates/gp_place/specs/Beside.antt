-- What stands beside a report where no file tells anything.
use Rattle.std.specs.Prelude.{[]}
use Rattle.gp_place.specs.declared.beside.Beside.{Beside}
use Rattle.gp_place.specs.Places.{nowhere}

-- no place of any event, and nothing that was seen
abbrev pub nothing_beside : Beside
nothing_beside = record { places = nowhere; sightings = [] }
