-- The lines of a schedule, one for each of its events.
use Rattle.std.specs.Prelude.{List, [], ◌∷◌, ◌++◌, length}
use Rattle.gp_window.specs.Ids.{contains_event}
use Rattle.gp_window.specs.WindowForm.{WindowForm}
use Rattle.gp_window.specs.declared.schedule.EventId.{EventId}
use Rattle.gp_story.specs.declared.story.StoryLine.{StoryLine}
use Rattle.gp_story.specs.Shared.{shares}
use Rattle.gp_story.specs.Source.{source_of, starter_of}

-- the line of an event, of which some are marked, with the events before it
abbrev pub line_of : WindowForm → List EventId → List EventId → EventId → StoryLine
line_of window marked before id = record {
  place = length before;
  event = id;
  source = source_of window before id;
  started_by = starter_of window before id;
  is_marked = contains_event marked id;
  is_shared = shares window id;
}

-- the lines of events, with those before all of them
abbrev pub lines_from : WindowForm → List EventId → List EventId → List EventId → List StoryLine
lines_from window marked before [] = []
lines_from window marked before (id ∷ ids) = line_of window marked before id ∷ lines_from window marked (before ++ id ∷ []) ids

-- the lines of a schedule, of whose events some are marked
abbrev pub lines_of : WindowForm → List EventId → List EventId → List StoryLine
lines_of window schedule marked = lines_from window marked [] schedule
