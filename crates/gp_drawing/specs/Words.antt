-- The words of a row.
use Rattle.std.specs.Prelude.{ℕ, List, [], ◌∷◌, ◌++◌, Option, Some, None, codes, decimal, length, max}
use Rattle.gp_place.specs.Places.{behind}
use Rattle.gp_place.specs.declared.places.Places.{Places}
use Rattle.gp_text.specs.Spelling.{after_words, joined}
use Rattle.gp_trace.specs.Printed.{event_words}
use Rattle.gp_trace.specs.declared.event.Event.{Event}
use Rattle.gp_window.specs.EventIds.{event_id_text}
use Rattle.gp_window.specs.Events.{event_at}
use Rattle.gp_window.specs.WindowForm.{WindowForm}
use Rattle.gp_window.specs.declared.schedule.EventId.{EventId}
use Rattle.gp_drawing.specs.declared.drawing.DrawnRow.{DrawnRow}
use Rattle.gp_drawing.specs.declared.drawing.DrawnRow.TheVariants.{One, Several}
use Rattle.gp_drawing.specs.declared.drawing.Span.{Span}

-- an event's own words, behind its id, where there is one
abbrev pub own_words : Option Event → List ℕ
own_words (Some event) = codes " " ++ joined (event_words event)
own_words None = []

-- the ends of a run, and how many events it has
abbrev pub span_words : Span → List ℕ
span_words span = event_id_text span.first ++ codes " to " ++ event_id_text span.last ++ codes ", " ++ decimal span.events ++ codes " events"

-- what stands behind the words of an event: where it is in the program
abbrev pub place_words : Places → WindowForm → EventId → List ℕ
place_words places window event = after_words (behind places window.number event)

-- the words of a row
abbrev pub row_words : Places → WindowForm → DrawnRow → List ℕ
row_words places window (One event is_marked) = event_id_text event ++ own_words (event_at window event) ++ place_words places window event
row_words places window (Several span) = span_words span

-- how many bytes a row has for the place of its event
abbrev pub place_length : Places → WindowForm → DrawnRow → ℕ
place_length places window (One event is_marked) = length (place_words places window event)
place_length places window (Several span) = 0

-- the most bytes that one of these rows has for it
abbrev pub longest_place : Places → WindowForm → List DrawnRow → ℕ
longest_place places window [] = 0
longest_place places window (drawn ∷ rows) = max (place_length places window drawn) (longest_place places window rows)
