-- Where the events of a recording are in the program, and how that is said.
use Rattle.std.specs.Prelude.{ℕ, zero, suc, List, [], ◌∷◌, ◌++◌, Option, Some, None, codes, decimal, slice_get, unwrap_or}
use Rattle.gp_window.specs.EventIds.{event_id_text}
use Rattle.gp_window.specs.declared.schedule.EventId.{EventId}
use Rattle.gp_place.specs.declared.places.Place.{Place}
use Rattle.gp_place.specs.declared.places.Places.{Places}

-- the entry of a list that has this number, where they are numbered from 1
abbrev pub entry_of : {A : Type 0} → List A → ℕ → Option A
entry_of entries zero = None
entry_of entries (suc place) = slice_get entries place

-- the numbers of the places of a thread's events in a window
abbrev pub numbers_in : Places → ℕ → ℕ → List ℕ
numbers_in places window thread = unwrap_or (entry_of (unwrap_or (entry_of places.numbers thread) []) window) []

-- the number of an event's place in a window; 0 where none is told
abbrev pub number_at : Places → ℕ → EventId → ℕ
number_at places window event = unwrap_or (slice_get (numbers_in places window event.thread) event.index) 0

-- an event's place in a window, where it is told
abbrev pub place_at : Places → ℕ → EventId → Option Place
place_at places window event = entry_of places.places (number_at places window event)

-- the text of a place
abbrev pub place_text : Place → List ℕ
place_text place = place.file ++ codes ":" ++ decimal place.line ++ codes " in " ++ place.function

-- what is shown of the source, behind a colon, where anything is
abbrev pub behind_colon : List ℕ → List ℕ
behind_colon [] = []
behind_colon (b ∷ bytes) = codes ": " ++ b ∷ bytes

-- a place with its line that stands behind what else is said of an event, with one space more between them
abbrev pub place_phrases : Option Place → List (List ℕ)
place_phrases None = []
place_phrases (Some place) = (codes " " ++ place_text place ++ behind_colon place.source) ∷ []

-- what stands behind all else that a line says of an event
abbrev pub behind : Places → ℕ → EventId → List (List ℕ)
behind places window event = place_phrases (place_at places window event)

-- a place in parentheses
abbrev pub in_parentheses : Option Place → List ℕ
in_parentheses None = []
in_parentheses (Some place) = codes " (" ++ place_text place ++ codes ")"

-- how an event is named in a sentence: by its id, with its place
abbrev pub named : Places → ℕ → EventId → List ℕ
named places window event = event_id_text event ++ in_parentheses (place_at places window event)

-- no place is told of any event
abbrev pub nowhere : Places
nowhere = record { places = []; numbers = [] }
