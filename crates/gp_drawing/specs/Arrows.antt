-- The arrows of a drawing: from the row of an event to the row of one that looks back at it.
use Rattle.std.specs.Prelude.{ℕ, ◌+◌, Bool, false, List, [], ◌∷◌, ◌++◌, Option, Some, None, if◌then◌else◌, length}
use Rattle.std.specs.Option.{option_or}
use Rattle.gp_trace.specs.declared.event.Event.{Event}
use Rattle.gp_trace.specs.declared.event.Event.TheVariants.{Read, Join}
use Rattle.gp_window.specs.Events.{event_at}
use Rattle.gp_window.specs.Ids.{is_same}
use Rattle.gp_window.specs.WindowForm.{WindowForm}
use Rattle.gp_window.specs.declared.schedule.EventId.{EventId}
use Rattle.gp_story.specs.declared.story.Part.{Part}
use Rattle.gp_story.specs.declared.story.Part.TheVariants.{Single, Run}
use Rattle.gp_story.specs.declared.story.Source.{Source}
use Rattle.gp_story.specs.declared.story.Source.TheVariants.{Earlier}
use Rattle.gp_story.specs.declared.story.StoryLine.{StoryLine}
use Rattle.gp_drawing.specs.declared.drawing.Arrow.{Arrow}
use Rattle.gp_drawing.specs.declared.drawing.ArrowKind.{ArrowKind}
use Rattle.gp_drawing.specs.declared.drawing.ArrowKind.TheVariants as kinds

-- the earlier event that is looked back at, where it is one
abbrev pub earlier : Source → Option EventId
earlier (Earlier event) = Some event
earlier _ = None

-- what an event looks back for: a read for its value, a join for the end of its thread, who takes a lock for the lock
abbrev pub kind_of : Option Event → ArrowKind
kind_of (Some (Read variable value)) = kinds.Read
kind_of (Some (Join thread)) = kinds.Join
kind_of _ = kinds.Lock

-- whether a part tells this event alone
abbrev pub tells_alone : EventId → Part → Bool
tells_alone event (Single line) = is_same event line.event
tells_alone event (Run lines) = false

-- the row of the last of these parts that tells the event alone; their rows count from this one on
abbrev pub row_telling : EventId → ℕ → List Part → Option ℕ
row_telling event row [] = None
row_telling event row (part ∷ parts) =
    option_or (row_telling event (row + 1) parts) (if tells_alone event part then Some row else None)

-- an arrow between two rows, where there is the first one
abbrev pub arrow_between : Option ℕ → ℕ → ArrowKind → List Arrow
arrow_between (Some from) to kind = record { from = from; to = to; kind = kind } ∷ []
arrow_between None to kind = []

-- the arrow from the row of an event, where there is one, to the row after these parts
abbrev pub arrow_from : List Part → Option EventId → ArrowKind → List Arrow
arrow_from before (Some event) kind = arrow_between (row_telling event 0 before) (length before) kind
arrow_from before None kind = []

-- the arrows to the row of a line: from what it looks back at, and from who started its thread
abbrev pub arrows_to_line : WindowForm → List Part → StoryLine → List Arrow
arrows_to_line window before line =
    arrow_from before (earlier line.source) (kind_of (event_at window line.event)) ++ arrow_from before line.started_by kinds.Start

-- the arrows to the row of a part, with the parts before it
abbrev pub arrows_to : WindowForm → List Part → Part → List Arrow
arrows_to window before (Single line) = arrows_to_line window before line
arrows_to window before (Run lines) = []

-- the arrows to the rows of parts, with the parts before all of them
abbrev pub arrows_from : WindowForm → List Part → List Part → List Arrow
arrows_from window before [] = []
arrows_from window before (part ∷ parts) = arrows_to window before part ++ arrows_from window (before ++ part ∷ []) parts

-- the arrows of parts
abbrev pub arrows_of : WindowForm → List Part → List Arrow
arrows_of window parts = arrows_from window [] parts
