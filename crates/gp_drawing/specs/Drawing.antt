-- The drawing of a story: its rows, the locks that are held, and what looks back at what.
use Rattle.gp_window.specs.WindowForm.{WindowForm}
use Rattle.gp_story.specs.declared.story.Story.{Story}
use Rattle.gp_drawing.specs.declared.drawing.Drawing.{Drawing}
use Rattle.gp_drawing.specs.Arrows.{arrows_of}
use Rattle.gp_drawing.specs.Bars.{bars_of}
use Rattle.gp_drawing.specs.Rows.{rows_of}

-- the drawing of a story of a window
abbrev pub drawing_of : WindowForm → Story → Drawing
drawing_of window story = record {
  rows = rows_of story.parts;
  bars = bars_of window story.parts;
  arrows = arrows_of window story.parts;
}
