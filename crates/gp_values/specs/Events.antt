-- Events and their places as values.
use Rattle.std.specs.Prelude.{ℕ, List, [], ◌∷◌, Option, Some, None, codes}
use Rattle.gp_json.specs.Json.{Json, named, object}
use Rattle.gp_json.specs.Json.Json.{Null, Number, Text}
use Rattle.gp_place.specs.Places.{place_at}
use Rattle.gp_place.specs.declared.places.Place.{Place}
use Rattle.gp_place.specs.declared.places.Places.{Places}
use Rattle.gp_text.specs.Spelling.{joined}
use Rattle.gp_trace.specs.Printed.{event_words}
use Rattle.gp_trace.specs.declared.event.Event.{Event}
use Rattle.gp_window.specs.EventIds.{event_id_text}
use Rattle.gp_window.specs.Events.{event_at}
use Rattle.gp_window.specs.WindowForm.{WindowForm}
use Rattle.gp_window.specs.declared.schedule.EventId.{EventId}

-- the id of an event, as `T.X`
abbrev pub id_value : EventId → Json
id_value id = Text (event_id_text id)

abbrev pub id_or_null : Option EventId → Json
id_or_null None = Null
id_or_null (Some id) = id_value id

-- what is shown of the source
abbrev pub source_value : List ℕ → Json
source_value [] = Null
source_value (b ∷ bytes) = Text (b ∷ bytes)

-- a place
unfoldable pub place_value : Place → Json
place_value place = object (
    named (codes "file") (Text place.file)
    ∷ named (codes "line") (Number place.line)
    ∷ named (codes "function") (Text place.function)
    ∷ named (codes "source") (source_value place.source) ∷ [])

abbrev pub place_or_null : Option Place → Json
place_or_null None = Null
place_or_null (Some place) = place_value place

-- an event's own words, as its trace has them
abbrev pub words_or_null : Option Event → Json
words_or_null None = Null
words_or_null (Some event) = Text (joined (event_words event))

-- an event of this id, and its place
unfoldable pub placed_value : EventId → Option Event → Option Place → Json
placed_value id event place = object (
    named (codes "thread") (Number id.thread)
    ∷ named (codes "index") (Number id.index)
    ∷ named (codes "text") (words_or_null event)
    ∷ named (codes "place") (place_or_null place) ∷ [])

-- an event of a window, where there is one, with its place where that is told
abbrev pub event_value : Places → WindowForm → EventId → Json
event_value places window id = placed_value id (event_at window id) (place_at places window.number id)
