-- The rows of a drawing, one for each part of a story.
use Rattle.std.specs.Prelude.{ℕ, ◌-◌, List, Option, Some, None, length, map, slice_get}
use Rattle.gp_window.specs.declared.schedule.EventId.{EventId}
use Rattle.gp_story.specs.declared.story.Part.{Part}
use Rattle.gp_story.specs.declared.story.Part.TheVariants.{Single, Run}
use Rattle.gp_story.specs.declared.story.StoryLine.{StoryLine}
use Rattle.gp_drawing.specs.declared.drawing.DrawnRow.{DrawnRow}
use Rattle.gp_drawing.specs.declared.drawing.DrawnRow.TheVariants.{One, Several}
use Rattle.gp_drawing.specs.declared.drawing.Span.{Span}

-- the event of a line; where there is no line, as at the ends of a run without lines, an id that names no event
abbrev pub event_of : Option StoryLine → EventId
event_of (Some line) = line.event
event_of None = record { thread = 0; index = 0 }

-- how many events a run has, the first and the last
abbrev pub span_of : List StoryLine → Span
span_of lines = record {
  events = length lines;
  first = event_of (slice_get lines 0);
  last = event_of (slice_get lines (length lines - 1));
}

-- the row of a part
abbrev pub row_of : Part → DrawnRow
row_of (Single line) = One line.event line.is_marked
row_of (Run lines) = Several (span_of lines)

-- the rows of parts
abbrev pub rows_of : List Part → List DrawnRow
rows_of parts = map row_of parts

-- the thread in whose lane a row stands
abbrev pub thread_of : DrawnRow → ℕ
thread_of (One event is_marked) = event.thread
thread_of (Several span) = span.first.thread
