-- The bars of a drawing: from where a thread takes a lock to where it gives it back.
use Rattle.std.specs.Prelude.{ℕ, ◌+◌, Bool, ◌==◌, ◌&&◌, List, [], ◌∷◌, ◌++◌, Option, Some, None, if◌then◌else◌, map}
use Rattle.std.specs.List.{flat_map}
use Rattle.gp_trace.specs.declared.lock_use.LockMode.TheVariants.{Exclusive}
use Rattle.gp_trace.specs.declared.lock_use.LockUse.{LockUse}
use Rattle.gp_trace.specs.declared.lock_use.LockUse.TheVariants.{Take}
use Rattle.gp_window.specs.Holders.{Holding}
use Rattle.gp_window.specs.WindowForm.{held_at_start, WindowForm}
use Rattle.gp_window.specs.declared.schedule.EventId.{EventId}
use Rattle.gp_replay.specs.LockUses.{use_at}
use Rattle.gp_story.specs.Deeds.{frees}
use Rattle.gp_story.specs.Parts.{lines_in}
use Rattle.gp_story.specs.declared.story.Part.{Part}
use Rattle.gp_story.specs.declared.story.StoryLine.{StoryLine}
use Rattle.gp_drawing.specs.declared.bars.Placed.{Placed}
use Rattle.gp_drawing.specs.declared.drawing.Bar.{Bar}

-- the event of a line, with the row that tells it
abbrev pub placed_at : ℕ → StoryLine → Placed
placed_at row line = record { row = row; event = line.event }

-- the events of a part
abbrev pub placed_in : ℕ → Part → List Placed
placed_in row part = map (placed_at row) (lines_in part)

-- the events of parts, whose rows count from this one on
abbrev pub placed_from : ℕ → List Part → List Placed
placed_from row [] = []
placed_from row (part ∷ parts) = placed_in row part ++ placed_from (row + 1) parts

-- whether an event is of the thread and gives the lock back
abbrev pub gives_back : WindowForm → ℕ → List ℕ → EventId → Bool
gives_back window thread lock event = event.thread == thread && frees window Exclusive lock event

-- the row of the first of these events at which the thread gives the lock back
abbrev pub row_given_back : WindowForm → ℕ → List ℕ → List Placed → Option ℕ
row_given_back window thread lock [] = None
row_given_back window thread lock (placed ∷ after) =
    if gives_back window thread lock placed.event then Some placed.row else row_given_back window thread lock after

-- the bar of an event that takes a lock, with the events after it
abbrev pub bars_of_use : WindowForm → Placed → List Placed → Option LockUse → List Bar
bars_of_use window placed after (Some (Take mode lock)) = record {
  thread = placed.event.thread;
  lock = lock;
  mode = mode;
  from = Some placed.row;
  to = row_given_back window placed.event.thread lock after;
} ∷ []
bars_of_use window placed after _ = []

-- the bars of those events that take locks
abbrev pub bars_from : WindowForm → List Placed → List Bar
bars_from window [] = []
bars_from window (placed ∷ after) = bars_of_use window placed after (use_at window placed.event) ++ bars_from window after

-- a bar from the top to the row, where there is one
abbrev pub bar_to : Holding → Option ℕ → List Bar
bar_to holding (Some row) = record { thread = holding.0.1; lock = holding.0.0; mode = holding.1; from = None; to = Some row } ∷ []
bar_to holding None = []

-- the bar of a lock that is held when the window begins, where one of these events gives it back
abbrev pub start_bar : WindowForm → List Placed → Holding → List Bar
start_bar window placed holding = bar_to holding (row_given_back window holding.0.1 holding.0.0 placed)

-- the bars of events, and before them those of the locks that are held when the window begins
abbrev pub bars_with : WindowForm → List Placed → List Bar
bars_with window placed = flat_map (start_bar window placed) (held_at_start window) ++ bars_from window placed

-- the bars of parts
abbrev pub bars_of : WindowForm → List Part → List Bar
bars_of window parts = bars_with window (placed_from 0 parts)
