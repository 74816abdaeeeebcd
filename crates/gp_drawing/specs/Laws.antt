-- What is true of drawings.
use Rattle.std.specs.Prelude.{ℕ, ◌≡◌, ◌⊎◌, ◌<◌, ◌≤◌, Contains, Some, length, slice_get}
use Rattle.gp_window.specs.WindowForm.{WindowForm}
use Rattle.gp_window.specs.declared.schedule.EventId.{EventId}
use Rattle.gp_story.specs.declared.story.Part.{Part}
use Rattle.gp_story.specs.declared.story.Part.TheVariants.{Single}
use Rattle.gp_story.specs.declared.story.Source.TheVariants.{Earlier}
use Rattle.gp_story.specs.declared.story.Story.{Story}
use Rattle.gp_story.specs.declared.story.StoryLine.{StoryLine}
use Rattle.gp_drawing.specs.declared.drawing.Arrow.{Arrow}
use Rattle.gp_drawing.specs.declared.drawing.Bar.{Bar}
use Rattle.gp_drawing.specs.Drawing.{drawing_of}
use Rattle.gp_drawing.specs.Rows.{row_of}

-- a drawing has a row for each part of its story, which tells that part
pub record RowsTellParts : Type 0 where
  pub many : (window : WindowForm) (story : Story) → length (drawing_of window story).rows ≡ length story.parts
  pub each : (window : WindowForm) (story : Story) (row : ℕ) (part : Part) → slice_get story.parts row ≡ Some part
      → slice_get (drawing_of window story).rows row ≡ Some (row_of part)

-- the line looks back at the event, or the event starts the line's thread
abbrev pub ComesFrom : StoryLine → EventId → Type 0
ComesFrom line event = (line.source ≡ Earlier event) ⊎ (line.started_by ≡ Some event)

-- each arrow leads down, between two rows that each tell one line, the later of which comes from the event of the earlier
pub record ArrowsLeadDown : Type 0 where
  pub down : (window : WindowForm) (story : Story) (arrow : Arrow) → Contains (drawing_of window story).arrows arrow
      → (arrow.from < arrow.to) × (arrow.to < length (drawing_of window story).rows)
  pub ends : (window : WindowForm) (story : Story) (arrow : Arrow) → Contains (drawing_of window story).arrows arrow
      → (earlier later : StoryLine) × (slice_get story.parts arrow.from ≡ Some (Single earlier)) × (slice_get story.parts arrow.to ≡ Some (Single later))
      × ComesFrom later earlier.event

-- a bar ends in a row, and not above the row in which it begins
pub record BarsLeadDown : Type 0 where
  pub down : (window : WindowForm) (story : Story) (bar : Bar) (from to : ℕ) → Contains (drawing_of window story).bars bar
      → bar.from ≡ Some from → bar.to ≡ Some to → from ≤ to
  pub there : (window : WindowForm) (story : Story) (bar : Bar) (to : ℕ) → Contains (drawing_of window story).bars bar
      → bar.to ≡ Some to → to < length (drawing_of window story).rows
