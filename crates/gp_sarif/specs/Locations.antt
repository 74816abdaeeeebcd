-- Where an event is: its words, and the file, the line and the function, where its place is told.
use Rattle.std.specs.Prelude.{ℕ, Bool, ◌==◌, nat_lt, List, [], ◌∷◌, Option, Some, None, codes, if◌then◌else◌}
use Rattle.std.specs.List.{list_all}
use Rattle.gp_json.specs.Json.{Json, Named, array, named, object}
use Rattle.gp_json.specs.Json.Json.{Number, Text}
use Rattle.gp_place.specs.Places.{place_at}
use Rattle.gp_place.specs.declared.places.Place.{Place}
use Rattle.gp_place.specs.declared.places.Places.{Places}
use Rattle.gp_text.specs.Spelling.{joined}
use Rattle.gp_trace.specs.Printed.{event_words}
use Rattle.gp_trace.specs.declared.event.Event.{Event}
use Rattle.gp_window.specs.Events.{event_at}
use Rattle.gp_window.specs.WindowForm.{WindowForm}
use Rattle.gp_window.specs.declared.schedule.EventId.{EventId}
use Rattle.gp_sarif.specs.Uri.{uri_of}

-- a message of these words
unfoldable pub message_value : List ℕ → Json
message_value words = object (named (codes "text") (Text words) ∷ [])

-- the file of a place
unfoldable pub artifact_value : List ℕ → Json
artifact_value file = object (named (codes "uri") (Text (uri_of file)) ∷ [])

-- whether a line of a source is ASCII: others could not be told without knowing how they are encoded
abbrev pub is_ascii : List ℕ → Bool
is_ascii source = list_all (λ byte. nat_lt byte 128) source

-- a line of a source that is ASCII
abbrev pub ascii_members : List ℕ → List Named
ascii_members source = if is_ascii source then named (codes "snippet") (message_value source) ∷ [] else []

-- the line of the source, where one is told
abbrev pub snippet_members : List ℕ → List Named
snippet_members [] = []
snippet_members (b ∷ bytes) = ascii_members (b ∷ bytes)

-- a line of a file
unfoldable pub region_value : ℕ → List ℕ → Json
region_value line source = object (named (codes "startLine") (Number line) ∷ snippet_members source)

-- the line, where it is known
abbrev pub region_members : ℕ → List ℕ → List Named
region_members line source = if line == 0 then [] else named (codes "region") (region_value line source) ∷ []

-- a place in a file
unfoldable pub physical_value : Place → Json
physical_value place = object (named (codes "artifactLocation") (artifact_value place.file) ∷ region_members place.line place.source)

-- a function
unfoldable pub function_value : List ℕ → Json
function_value function = object (named (codes "name") (Text function) ∷ named (codes "kind") (Text (codes "function")) ∷ [])

-- the place of an event, where it is told
abbrev pub place_members : Option Place → List Named
place_members None = []
place_members (Some place) =
    named (codes "physicalLocation") (physical_value place) ∷ named (codes "logicalLocations") (array (function_value place.function ∷ [])) ∷ []

-- an event as its trace has it
abbrev pub event_text : Option Event → List ℕ
event_text None = []
event_text (Some event) = joined (event_words event)

-- an event and its place
unfoldable pub placed_location : Option Event → Option Place → Json
placed_location event place = object (named (codes "message") (message_value (event_text event)) ∷ place_members place)

-- an event of a window
abbrev pub location_value : Places → WindowForm → EventId → Json
location_value places window id = placed_location (event_at window id) (place_at places window.number id)
