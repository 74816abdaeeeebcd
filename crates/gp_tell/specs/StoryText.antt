-- A story as text: a line for each part. `behind` says what stands behind all else that is said of an event. A line is a list of phrases, and a space stands between two of them.
use Rattle.std.specs.Prelude.{ℕ, ◌+◌, ◌-◌, Bool, List, [], ◌∷◌, ◌++◌, Option, Some, None, if◌then◌else◌, codes, decimal, length, slice_get}
use Rattle.std.specs.List.{flat_map}
use Rattle.gp_trace.specs.declared.event.Event.{Event}
use Rattle.gp_trace.specs.declared.event.Event.TheVariants.{Read}
use Rattle.gp_trace.specs.Printed.{event_words}
use Rattle.gp_window.specs.EventIds.{event_id_text}
use Rattle.gp_window.specs.Events.{event_at}
use Rattle.gp_window.specs.WindowForm.{WindowForm}
use Rattle.gp_window.specs.declared.schedule.EventId.{EventId}
use Rattle.gp_story.specs.declared.story.Part.{Part}
use Rattle.gp_story.specs.declared.story.Part.TheVariants.{Single, Run}
use Rattle.gp_story.specs.declared.story.Source.{Source}
use Rattle.gp_story.specs.declared.story.Source.TheVariants.{Nothing, Beginning, Earlier}
use Rattle.gp_story.specs.declared.story.Story.{Story}
use Rattle.gp_story.specs.declared.story.StoryLine.{StoryLine}

-- where a read finds its value
abbrev pub seen_words : Source → List (List ℕ)
seen_words Nothing = []
seen_words Beginning = codes "sees the beginning" ∷ []
seen_words (Earlier id) = codes "sees" ∷ event_id_text id ∷ []

-- which event lets in one that is no read
abbrev pub awaited_words : Source → List (List ℕ)
awaited_words Nothing = []
awaited_words Beginning = []
awaited_words (Earlier id) = codes "after" ∷ event_id_text id ∷ []

-- what an event looks back at
abbrev pub source_words : Event → Source → List (List ℕ)
source_words (Read variable value) source = seen_words source
source_words event source = awaited_words source

-- who started the thread of an event, where that is told
abbrev pub starter_words : Option EventId → List (List ℕ)
starter_words (Some id) = codes "started by" ∷ event_id_text id ∷ []
starter_words None = []

-- that an event is one of the instance's, where it is
abbrev pub mark_words : Bool → List (List ℕ)
mark_words is_marked = if is_marked then codes "<- instance" ∷ [] else []

-- what there is to say of a line beside its event
abbrev pub remark_words : StoryLine → List (List ℕ)
remark_words line = starter_words line.started_by ++ mark_words line.is_marked

-- the event of a line as its trace has it, where there is one, and what there is to say of it
abbrev pub told_words : Option Event → StoryLine → List (List ℕ)
told_words (Some event) line = event_words event ++ (source_words event line.source ++ remark_words line)
told_words None line = codes "no event" ∷ remark_words line

-- one line: its place from 1, the id of its event, what is told of it, and what stands behind that
abbrev pub single_line : (EventId → List (List ℕ)) → WindowForm → StoryLine → List (List ℕ)
single_line behind window line =
    decimal (line.place + 1) ∷ event_id_text line.event ∷ (told_words (event_at window line.event) line ++ behind line.event)

-- so many lines as one: the first and the last place, the first and the last event, and how many there are
abbrev pub run_line : StoryLine → StoryLine → ℕ → List (List ℕ)
run_line first last count =
    decimal (first.place + 1) ∷ codes "to" ∷ decimal (last.place + 1)
    ∷ event_id_text first.event ∷ codes "to" ∷ (event_id_text last.event ++ codes ",")
    ∷ decimal count ∷ codes "events that nobody else has to do with" ∷ []

-- the same, where there is a first line and a last one
abbrev pub run_between : Option StoryLine → Option StoryLine → ℕ → List (List (List ℕ))
run_between (Some first) (Some last) count = run_line first last count ∷ []
run_between (Some first) None count = []
run_between None last count = []

-- the lines of a part; a run without lines has none
abbrev pub part_lines : (EventId → List (List ℕ)) → WindowForm → Part → List (List (List ℕ))
part_lines behind window (Single line) = single_line behind window line ∷ []
part_lines behind window (Run lines) = run_between (slice_get lines 0) (slice_get lines (length lines - 1)) (length lines)

-- a story of a window
abbrev pub story_lines : (EventId → List (List ℕ)) → WindowForm → Story → List (List (List ℕ))
story_lines behind window story = flat_map (part_lines behind window) story.parts
