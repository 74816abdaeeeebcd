-- The drawings of small stories, and the text of one.
use Rattle.std.specs.Prelude.{◌≡◌, ℕ, false, true, List, [], ◌∷◌, ◌++◌, Option, Some, None, codes}
use Rattle.gp_trace.specs.declared.lock_use.LockMode.{LockMode}
use Rattle.gp_trace.specs.declared.lock_use.LockMode.TheVariants.{Exclusive, Shared}
use Rattle.gp_place.specs.Places.{nowhere}
use Rattle.gp_place.specs.declared.places.Places.{Places}
use Rattle.gp_window.specs.WindowForm.{WindowForm}
use Rattle.gp_window.specs.declared.schedule.EventId.{EventId}
use Rattle.gp_story.specs.Examples.{flagged, guarded, read}
use Rattle.gp_story.specs.Parts.{story_of}
use Rattle.gp_drawing.specs.declared.drawing.Arrow.{Arrow}
use Rattle.gp_drawing.specs.declared.drawing.ArrowKind.{ArrowKind}
use Rattle.gp_drawing.specs.declared.drawing.ArrowKind.TheVariants as kinds
use Rattle.gp_drawing.specs.declared.drawing.Bar.{Bar}
use Rattle.gp_drawing.specs.declared.drawing.Drawing.{Drawing}
use Rattle.gp_drawing.specs.declared.drawing.DrawnRow.{DrawnRow}
use Rattle.gp_drawing.specs.declared.drawing.DrawnRow.TheVariants.{One, Several}
use Rattle.gp_drawing.specs.Drawing.{drawing_of}
use Rattle.gp_drawing.specs.Escaped.{escaped}
use Rattle.gp_drawing.specs.Svg.{svg}

abbrev at : ℕ → ℕ → EventId
at thread index = record { thread = thread; index = index }

-- the drawing of a schedule of a window, some of whose events are marked
abbrev pub drawn : WindowForm → List EventId → List EventId → Drawing
drawn window schedule marked = drawing_of window (story_of window schedule marked)

abbrev plain : EventId → DrawnRow
plain event = One event false

-- a bar of the one lock of these windows
abbrev bar : ℕ → LockMode → Option ℕ → Option ℕ → Bar
bar thread mode from to = record { thread = thread; lock = codes "c"; mode = mode; from = from; to = to }

abbrev arrow : ℕ → ℕ → ArrowKind → Arrow
arrow from to kind = record { from = from; to = to; kind = kind }

-- of the events of this window, the one of thread 3 has a place
abbrev pub in_main : Places
in_main = record {
  places = record { file = codes "a.c"; line = 7; function = codes "f<g"; source = [] } ∷ [];
  numbers = [] ∷ [] ∷ ((1 ∷ []) ∷ []) ∷ [];
}

pub record ExamplesHold : Type 0 where
  -- a read comes from the write and from the start of its thread
  pub flag_raised : drawn flagged (at 1 0 ∷ at 1 1 ∷ at 1 2 ∷ at 2 0 ∷ at 2 1 ∷ []) [] ≡ record {
    rows = plain (at 1 0) ∷ plain (at 1 1) ∷ plain (at 1 2) ∷ plain (at 2 0) ∷ plain (at 2 1) ∷ [];
    bars = [];
    arrows = arrow 2 3 kinds.Read ∷ arrow 0 3 kinds.Start ∷ [];
  }
  -- two threads work under one lock, the first in a run of two events
  pub work_folded : drawn guarded (at 1 0 ∷ at 1 1 ∷ at 1 2 ∷ at 1 3 ∷ at 2 0 ∷ at 2 1 ∷ at 2 2 ∷ []) (at 2 1 ∷ []) ≡ record {
    rows = plain (at 1 0) ∷ Several (record { events = 2; first = at 1 1; last = at 1 2 }) ∷ plain (at 1 3) ∷ plain (at 2 0) ∷ One (at 2 1) true ∷ plain (at 2 2) ∷ [];
    bars = bar 1 Exclusive (Some 0) (Some 2) ∷ bar 2 Exclusive (Some 3) (Some 5) ∷ [];
    arrows = arrow 2 3 kinds.Lock ∷ [];
  }
  -- a lock that is held when the window begins, two readers of it, and who takes it last and does not give it back
  pub readers_pass : drawn read (at 3 0 ∷ at 1 0 ∷ at 1 1 ∷ at 2 0 ∷ at 2 1 ∷ at 3 1 ∷ []) [] ≡ record {
    rows = plain (at 3 0) ∷ plain (at 1 0) ∷ plain (at 1 1) ∷ plain (at 2 0) ∷ plain (at 2 1) ∷ plain (at 3 1) ∷ [];
    bars = bar 3 Exclusive None (Some 0) ∷ bar 1 Shared (Some 1) (Some 2) ∷ bar 2 Shared (Some 3) (Some 4) ∷ bar 3 Exclusive (Some 5) None ∷ [];
    arrows = arrow 0 1 kinds.Lock ∷ arrow 0 3 kinds.Lock ∷ arrow 4 5 kinds.Lock ∷ [];
  }
  -- the text of the first two of those rows, the second of which is marked
  pub two_rows : svg nowhere read (drawn read (at 3 0 ∷ at 1 0 ∷ []) (at 1 0 ∷ [])) ≡
      codes "<svg class='drawing' viewBox='0 0 584 84' width='584' height='84'>\n"
      ++ codes "<line class='lane' x1='40' y1='20' x2='40' y2='74'/>\n<text class='thread' x='40' y='14'>1</text>\n"
      ++ codes "<line class='lane' x1='88' y1='20' x2='88' y2='74'/>\n<text class='thread' x='88' y='14'>2</text>\n"
      ++ codes "<line class='lane' x1='136' y1='20' x2='136' y2='74'/>\n<text class='thread' x='136' y='14'>3</text>\n"
      ++ codes "<line class='bar' x1='136' y1='20' x2='136' y2='30'><title>lock c</title></line>\n"
      ++ codes "<line class='bar shared' x1='40' y1='52' x2='40' y2='74'><title>lock c</title></line>\n"
      ++ codes "<line class='arrow lock' x1='136' y1='30' x2='40' y2='52' marker-end='url(#tip)'/>\n"
      ++ codes "<g class='row'><title>3.0 release c</title><circle class='event' cx='136' cy='30' r='6'/>"
      ++ codes "<text class='words' x='184' y='34'>3.0 release c</text></g>\n"
      ++ codes "<g class='row'><title>1.0 racquire c</title><circle class='event marked' cx='40' cy='52' r='6'/>"
      ++ codes "<text class='words' x='184' y='56'>1.0 racquire c</text></g>\n</svg>\n"
  -- the same where the first of these events has a place
  pub with_place : svg in_main read (drawn read (at 3 0 ∷ at 1 0 ∷ []) (at 1 0 ∷ [])) ≡
      codes "<svg class='drawing' viewBox='0 0 696 84' width='696' height='84'>\n"
      ++ codes "<line class='lane' x1='40' y1='20' x2='40' y2='74'/>\n<text class='thread' x='40' y='14'>1</text>\n"
      ++ codes "<line class='lane' x1='88' y1='20' x2='88' y2='74'/>\n<text class='thread' x='88' y='14'>2</text>\n"
      ++ codes "<line class='lane' x1='136' y1='20' x2='136' y2='74'/>\n<text class='thread' x='136' y='14'>3</text>\n"
      ++ codes "<line class='bar' x1='136' y1='20' x2='136' y2='30'><title>lock c</title></line>\n"
      ++ codes "<line class='bar shared' x1='40' y1='52' x2='40' y2='74'><title>lock c</title></line>\n"
      ++ codes "<line class='arrow lock' x1='136' y1='30' x2='40' y2='52' marker-end='url(#tip)'/>\n"
      ++ codes "<g class='row'><title>3.0 release c  a.c:7 in f&lt;g</title><circle class='event' cx='136' cy='30' r='6'/>"
      ++ codes "<text class='words' x='184' y='34'>3.0 release c  a.c:7 in f&lt;g</text></g>\n"
      ++ codes "<g class='row'><title>1.0 racquire c</title><circle class='event marked' cx='40' cy='52' r='6'/>"
      ++ codes "<text class='words' x='184' y='56'>1.0 racquire c</text></g>\n</svg>\n"
  pub markup : escaped (codes "a<b & 'c'>") ≡ codes "a&lt;b &amp; &#39;c&#39;&gt;"
