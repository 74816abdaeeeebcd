-- Folding: neighbouring quiet lines of one thread, as many as stand together, are one part.
use Rattle.std.specs.Prelude.{Bool, not, is_none, ◌==◌, ◌&&◌, List, [], ◌∷◌, map, if◌then◌else◌}
use Rattle.std.specs.List.{flat_map}
use Rattle.gp_window.specs.WindowForm.{WindowForm}
use Rattle.gp_window.specs.declared.schedule.EventId.{EventId}
use Rattle.gp_story.specs.declared.story.Part.{Part}
use Rattle.gp_story.specs.declared.story.Part.TheVariants.{Single, Run}
use Rattle.gp_story.specs.declared.story.Story.{Story}
use Rattle.gp_story.specs.declared.story.StoryLine.{StoryLine}
use Rattle.gp_story.specs.Lines.{lines_of}

-- whether there is nothing to say of a line: it is neither marked nor shared, nor does it begin a thread that was started
abbrev pub is_quiet : StoryLine → Bool
is_quiet line = not line.is_marked && not line.is_shared && is_none line.started_by

-- whether two neighbouring lines stand in one part: both are quiet, and of one thread
abbrev pub stand_together : StoryLine → StoryLine → Bool
stand_together one other = is_quiet one && is_quiet other && one.event.thread == other.event.thread

-- a line before groups of lines: in the first group, where it stands together with the first line there, or else alone
abbrev pub with_line : StoryLine → List (List StoryLine) → List (List StoryLine)
with_line line ((next ∷ lines) ∷ groups) =
    if stand_together line next then (line ∷ next ∷ lines) ∷ groups else (line ∷ []) ∷ (next ∷ lines) ∷ groups
with_line line groups = (line ∷ []) ∷ groups

-- lines in groups of neighbours that stand together
abbrev pub groups_of : List StoryLine → List (List StoryLine)
groups_of [] = []
groups_of (line ∷ lines) = with_line line (groups_of lines)

-- a group as a part: one line alone, or a run
abbrev pub part_of : List StoryLine → Part
part_of [] = Run []
part_of (line ∷ []) = Single line
part_of (line ∷ next ∷ lines) = Run (line ∷ next ∷ lines)

-- lines as the parts of a story
abbrev pub parts_of : List StoryLine → List Part
parts_of lines = map part_of (groups_of lines)

-- a schedule of a window as a story, some of whose events are marked
abbrev pub story_of : WindowForm → List EventId → List EventId → Story
story_of window schedule marked = record { parts = parts_of (lines_of window schedule marked) }

-- the lines of a part
abbrev pub lines_in : Part → List StoryLine
lines_in (Single line) = line ∷ []
lines_in (Run lines) = lines

-- the lines of a story, one part after another
abbrev pub lines_told : Story → List StoryLine
lines_told story = flat_map lines_in story.parts
