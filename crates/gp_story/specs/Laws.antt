-- What is true of stories.
use Rattle.std.specs.Prelude.{ℕ, ℤ, ◌≡◌, ◌≢◌, ◌≤◌, true, Contains, List, [], ◌∷◌, ◌++◌, length, map, take}
use Rattle.gp_window.specs.WindowForm.{IsWindow, numbers_from, start_value, WindowForm}
use Rattle.gp_window.specs.declared.schedule.EventId.{EventId}
use Rattle.gp_replay.specs.Feasible.{IsFeasible}
use Rattle.gp_replay.specs.Value.{Reads, Writes}
use Rattle.gp_story.specs.declared.story.Part.{Part}
use Rattle.gp_story.specs.declared.story.Part.TheVariants.{Run}
use Rattle.gp_story.specs.declared.story.Source.TheVariants.{Beginning, Earlier, Nothing}
use Rattle.gp_story.specs.declared.story.StoryLine.{StoryLine}
use Rattle.gp_story.specs.Lines.{lines_of}
use Rattle.gp_story.specs.Parts.{is_quiet, lines_in, lines_told, story_of}

-- the lines may be told as one: there are two or more, all of them quiet, and of one thread
pub record IsRun (lines : List StoryLine) : Type 0 where
  pub many : 2 ≤ length lines
  pub quiet : (line : StoryLine) → Contains lines line → is_quiet line ≡ true
  pub thread : (one other : StoryLine) → Contains lines one → Contains lines other → one.event.thread ≡ other.event.thread

-- of two neighbouring parts: where the last line of the one and the first line of the other are quiet, they are of
-- different threads
abbrev pub StandApart : Part → Part → Type 0
StandApart one other = (front back : List StoryLine) (last first : StoryLine) → lines_in one ≡ front ++ last ∷ [] → lines_in other ≡ first ∷ back
    → is_quiet last ≡ true → is_quiet first ≡ true → last.event.thread ≢ first.event.thread

-- a story tells each event of its schedule once
pub record StoriesTellEachOnce : Type 0 where
  -- its lines, one part after another, are those of the schedule, which are those of its events, in order and with their places
  pub lines : (window : WindowForm) (schedule marked : List EventId) → lines_told (story_of window schedule marked) ≡ lines_of window schedule marked
  pub events : (window : WindowForm) (schedule marked : List EventId) → map (λ line. line.event) (lines_of window schedule marked) ≡ schedule
  pub places : (window : WindowForm) (schedule marked : List EventId) → map (λ line. line.place) (lines_of window schedule marked) ≡ numbers_from 0 (length schedule)
  -- each of its runs may be told as one
  pub runs : (window : WindowForm) (schedule marked : List EventId) (run : List StoryLine) → Contains (story_of window schedule marked).parts (Run run) → IsRun run
  -- nothing more could be folded
  pub apart : (window : WindowForm) (schedule marked : List EventId) (front back : List Part) (one other : Part)
      → (story_of window schedule marked).parts ≡ front ++ one ∷ other ∷ back → StandApart one other

-- in a story of a feasible schedule each read looks back at where its value comes from: at an earlier event that wrote this
-- value, or at the beginning of the window, where the variable had this value
pub record SourcesAreLastWrites : Type 0 where
  pub written : (window : WindowForm) (schedule marked : List EventId) (line : StoryLine) (variable : List ℕ) (value : ℤ) (source : EventId)
      → IsFeasible window schedule → Contains (lines_of window schedule marked) line → Reads window line.event variable value
      → line.source ≡ Earlier source → Contains (take line.place schedule) source × Writes window source variable value
  pub begun : (window : WindowForm) (schedule marked : List EventId) (line : StoryLine) (variable : List ℕ) (value : ℤ)
      → IsWindow window → IsFeasible window schedule → Contains (lines_of window schedule marked) line → Reads window line.event variable value
      → line.source ≡ Beginning → start_value window variable ≡ value
  pub told : (window : WindowForm) (schedule marked : List EventId) (line : StoryLine) (variable : List ℕ) (value : ℤ)
      → Contains (lines_of window schedule marked) line → Reads window line.event variable value → line.source ≢ Nothing
