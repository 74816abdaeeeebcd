-- Which lines spell a schedule, and that this is what the reader reads.
use Rattle.std.specs.Prelude.{◌≡◌, ◌↔◌, ◌<◌, ◌≤◌, ◌^◌, ℕ, List, [], ◌∷◌, codes, decimal, flat_map, map, Ok}
use Rattle.std.specs.List.{AllByRecursion}
use Rattle.gp_text.specs.declared.line.Line.{Line}
use Rattle.gp_window.specs.EventIds.{event_id_text}
use Rattle.gp_window.specs.declared.schedule.EventId.{EventId}
use Rattle.gp_replay.specs.Schedule.{schedule_of}
use Rattle.gp_replay.specs.declared.schedule.WindowSchedule.{WindowSchedule}

-- the words of the lines, one line after another
abbrev pub words_in : List Line → List (List ℕ)
words_in lines = flat_map (λ line. line.words) lines

-- the thread and the index of each event have their width
abbrev pub AreEventIds : List EventId → Type 0
AreEventIds ids = AllByRecursion (λ id. (id.thread < 2 ^ 32) × (id.index < 2 ^ 32)) ids

-- the lines spell a schedule for one of so many windows: a line with the window's number, and then
-- lines whose words are the ids of its events, in order
pub record Spells (epochs : ℕ) (lines : List Line) (read : WindowSchedule) : Type 0 where
  pub first : Line
  pub rest : List Line
  pub all : lines ≡ first ∷ rest
  pub window : first.words ≡ codes "window" ∷ decimal read.window ∷ []
  pub least : 1 ≤ read.window
  pub most : read.window ≤ epochs
  pub events : words_in rest ≡ map event_id_text read.schedule.events

-- the reader reads a schedule exactly where the lines spell it
abbrev pub SchedulesReadExactly : Type 0
SchedulesReadExactly = (epochs end : ℕ) (lines : List Line) (read : WindowSchedule) → epochs < 2 ^ 32 → AreEventIds read.schedule.events
    → (schedule_of epochs end lines ≡ Ok read) ↔ Spells epochs lines read
