-- A story as a value: its parts in order.
use Rattle.std.specs.Prelude.{ℕ, ◌+◌, ◌-◌, [], ◌∷◌, Option, Some, None, codes, length, map, slice_get}
use Rattle.gp_json.specs.Json.{Json, array, named, object}
use Rattle.gp_json.specs.Json.Json.{Flag, Null, Number, Text}
use Rattle.gp_place.specs.declared.places.Places.{Places}
use Rattle.gp_story.specs.declared.story.Part.{Part}
use Rattle.gp_story.specs.declared.story.Part.TheVariants.{Single, Run}
use Rattle.gp_story.specs.declared.story.Source.{Source}
use Rattle.gp_story.specs.declared.story.Source.TheVariants.{Nothing, Beginning, Earlier}
use Rattle.gp_story.specs.declared.story.Story.{Story}
use Rattle.gp_story.specs.declared.story.StoryLine.{StoryLine}
use Rattle.gp_trace.specs.declared.event.Event.{Event}
use Rattle.gp_trace.specs.declared.event.Event.TheVariants.{Read}
use Rattle.gp_window.specs.Events.{event_at}
use Rattle.gp_window.specs.WindowForm.{WindowForm}
use Rattle.gp_values.specs.Events.{event_value, id_or_null, id_value}

-- where a read finds its value
abbrev pub seen_value : Source → Json
seen_value Nothing = Null
seen_value Beginning = Text (codes "the beginning")
seen_value (Earlier id) = id_value id

-- which event lets in one that is no read
abbrev pub awaited_value : Source → Json
awaited_value Nothing = Null
awaited_value Beginning = Null
awaited_value (Earlier id) = id_value id

-- what an event sees: a read alone sees anything
abbrev pub sees_value : Event → Source → Json
sees_value (Read variable value) source = seen_value source
sees_value event source = Null

-- what it comes after
abbrev pub after_value : Event → Source → Json
after_value (Read variable value) source = Null
after_value event source = awaited_value source

abbrev pub sees_or_null : Option Event → Source → Json
sees_or_null None source = Null
sees_or_null (Some event) source = sees_value event source

abbrev pub after_or_null : Option Event → Source → Json
after_or_null None source = Null
after_or_null (Some event) source = after_value event source

-- one event of a schedule: its number from 1, the event, and what there is to say of it
unfoldable pub line_value : Places → WindowForm → StoryLine → Json
line_value places window line = object (
    named (codes "number") (Number (line.place + 1))
    ∷ named (codes "event") (event_value places window line.event)
    ∷ named (codes "sees") (sees_or_null (event_at window line.event) line.source)
    ∷ named (codes "after") (after_or_null (event_at window line.event) line.source)
    ∷ named (codes "started_by") (id_or_null line.started_by)
    ∷ named (codes "is_of_instance") (Flag line.is_marked) ∷ [])

-- so many neighbouring events as one: the numbers and the ids of the first and of the last, and how many there are
unfoldable pub run_value : StoryLine → StoryLine → ℕ → Json
run_value first last count = object (
    named (codes "first") (Number (first.place + 1))
    ∷ named (codes "last") (Number (last.place + 1))
    ∷ named (codes "from") (id_value first.event)
    ∷ named (codes "to") (id_value last.event)
    ∷ named (codes "count") (Number count) ∷ [])

abbrev pub run_between : Option StoryLine → Option StoryLine → ℕ → Json
run_between (Some first) (Some last) count = run_value first last count
run_between (Some first) None count = Null
run_between None last count = Null

-- a part; a run without lines, which no story has, is null
abbrev pub part_value : Places → WindowForm → Part → Json
part_value places window (Single line) = line_value places window line
part_value places window (Run lines) = run_between (slice_get lines 0) (slice_get lines (length lines - 1)) (length lines)

-- a story of a window
abbrev pub story_value : Places → WindowForm → Story → Json
story_value places window story = array (map (part_value places window) story.parts)
