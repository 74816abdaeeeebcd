-- The text of a drawing: lanes, bars and arrows as lines, rows as circles, and the words of each row beside them.
use Rattle.std.specs.Prelude.{ℕ, ◌+◌, List, [], ◌∷◌, ◌++◌, codes, decimal, if◌then◌else◌, length}
use Rattle.std.specs.List.{flat_map}
use Rattle.gp_trace.specs.declared.lock_use.LockMode.{LockMode}
use Rattle.gp_trace.specs.declared.lock_use.LockMode.TheVariants.{Exclusive, Shared}
use Rattle.gp_place.specs.declared.places.Places.{Places}
use Rattle.gp_window.specs.WindowForm.{numbers_from, WindowForm}
use Rattle.gp_drawing.specs.declared.drawing.Arrow.{Arrow}
use Rattle.gp_drawing.specs.declared.drawing.ArrowKind.{ArrowKind}
use Rattle.gp_drawing.specs.declared.drawing.ArrowKind.TheVariants.{Read, Lock, Join, Start}
use Rattle.gp_drawing.specs.declared.drawing.Bar.{Bar}
use Rattle.gp_drawing.specs.declared.drawing.Drawing.{Drawing}
use Rattle.gp_drawing.specs.declared.drawing.DrawnRow.{DrawnRow}
use Rattle.gp_drawing.specs.declared.drawing.DrawnRow.TheVariants.{One, Several}
use Rattle.gp_drawing.specs.Escaped.{escaped}
use Rattle.gp_drawing.specs.Places.{begin_y, end_y, height, lane_x, row_y, thread_x, width, x_at}
use Rattle.gp_drawing.specs.Rows.{thread_of}
use Rattle.gp_drawing.specs.Words.{longest_place, row_words}

-- an attribute that is a number
abbrev pub attribute : List ℕ → ℕ → List ℕ
attribute name value = codes " " ++ name ++ codes "='" ++ decimal value ++ codes "'"

-- words between two texts
abbrev pub between : List ℕ → List ℕ → List ℕ → List ℕ
between before words after = before ++ escaped words ++ after

-- the two attributes of a point
abbrev pub point : List ℕ → ℕ → List ℕ → ℕ → List ℕ
point x_name x y_name y = attribute x_name x ++ attribute y_name y

-- the two numbers that end an attribute
abbrev pub pair : List ℕ → ℕ → ℕ → List ℕ
pair before x y = before ++ decimal x ++ codes " " ++ decimal y ++ codes "'"

-- a tag that is begun, of a class
abbrev pub tag : List ℕ → List ℕ → List ℕ
tag name class = codes "<" ++ name ++ codes " class='" ++ class ++ codes "'"

-- a line of a class from one point to another, whose tag is not ended
abbrev pub stroke : List ℕ → ℕ → ℕ → ℕ → ℕ → List ℕ
stroke class x1 y1 x2 y2 = tag (codes "line") class ++ point (codes "x1") x1 (codes "y1") y1 ++ point (codes "x2") x2 (codes "y2") y2

-- words of a class at a point, which are not ended
abbrev pub words_at : List ℕ → ℕ → ℕ → List ℕ
words_at class x y = tag (codes "text") class ++ point (codes "x") x (codes "y") y ++ codes ">"

-- the line of a thread's lane beside so many rows
abbrev pub lane_line : ℕ → ℕ → List ℕ
lane_line rows thread = stroke (codes "lane") (thread_x thread) 20 (thread_x thread) (row_y rows) ++ codes "/>\n"

-- the number of a thread, above its lane
abbrev pub lane_name : ℕ → List ℕ
lane_name thread = words_at (codes "thread") (thread_x thread) 14 ++ decimal thread ++ codes "</text>\n"

-- the lane of a thread
unfoldable pub lane_svg : ℕ → ℕ → List ℕ
lane_svg rows thread = lane_line rows thread ++ lane_name thread

-- the class of a bar: a lock that is held alone, or as a reader
abbrev pub bar_class : LockMode → List ℕ
bar_class Exclusive = codes "bar"
bar_class Shared = codes "bar shared"

-- the lock of a bar, where a pointer rests
abbrev pub bar_title : List ℕ → List ℕ
bar_title lock = between (codes "><title>lock ") lock (codes "</title></line>\n")

-- a bar beside so many rows
unfoldable pub bar_svg : ℕ → Bar → List ℕ
bar_svg rows bar =
    stroke (bar_class bar.mode) (thread_x bar.thread) (begin_y bar.from) (thread_x bar.thread) (end_y rows bar.to)
    ++ bar_title bar.lock

-- the class of an arrow
abbrev pub arrow_class : ArrowKind → List ℕ
arrow_class Read = codes "arrow read"
arrow_class Lock = codes "arrow lock"
arrow_class Join = codes "arrow join"
arrow_class Start = codes "arrow start"

-- a line with a tip
unfoldable pub arrow_line : List ℕ → ℕ → ℕ → ℕ → ℕ → List ℕ
arrow_line class x1 y1 x2 y2 = stroke class x1 y1 x2 y2 ++ codes " marker-end='url(#tip)'/>\n"

-- an arrow between two of these rows
unfoldable pub arrow_svg : List DrawnRow → Arrow → List ℕ
arrow_svg rows arrow = arrow_line (arrow_class arrow.kind) (x_at rows arrow.from) (row_y arrow.from) (x_at rows arrow.to) (row_y arrow.to)

-- the class of a row's circle
abbrev pub row_class : DrawnRow → List ℕ
row_class (One event is_marked) = if is_marked then codes "event marked" else codes "event"
row_class (Several span) = codes "run"

-- the circle of a row
unfoldable pub circle : DrawnRow → ℕ → List ℕ
circle drawn row = tag (codes "circle") (row_class drawn) ++ point (codes "cx") (thread_x (thread_of drawn)) (codes "cy") (row_y row) ++ codes " r='6'/>"

-- the words of a row, where a pointer rests
unfoldable pub row_title : List ℕ → List ℕ
row_title words = between (codes "<g class='row'><title>") words (codes "</title>")

-- the words of a row, right of so many lanes
unfoldable pub row_text : ℕ → ℕ → List ℕ → List ℕ
row_text lanes row words = words_at (codes "words") (lane_x lanes) (row_y row + 4) ++ between [] words (codes "</text></g>\n")

-- a row: its circle, and its words in both places
unfoldable pub row_svg : Places → WindowForm → ℕ → ℕ → DrawnRow → List ℕ
row_svg places window lanes row drawn =
    row_title (row_words places window drawn) ++ circle drawn row ++ row_text lanes row (row_words places window drawn)

-- rows right of so many lanes, from the row of this number on
abbrev pub rows_svg : Places → WindowForm → ℕ → ℕ → List DrawnRow → List ℕ
rows_svg places window lanes row [] = []
rows_svg places window lanes row (drawn ∷ more) = row_svg places window lanes row drawn ++ rows_svg places window lanes (row + 1) more

-- what part of the plane a drawing shows
unfoldable pub view : ℕ → ℕ → List ℕ
view width height = tag (codes "svg") (codes "drawing") ++ pair (codes " viewBox='0 0 ") width height

-- the head of a drawing of so many lanes and rows, whose longest place has so many bytes: how wide and how high it is
unfoldable pub head : ℕ → ℕ → ℕ → List ℕ
head lanes rows longest =
    view (width lanes longest) (height rows) ++ point (codes "width") (width lanes longest) (codes "height") (height rows) ++ codes ">\n"

-- what stands behind the rows: lanes, bars and arrows
unfoldable pub behind : ℕ → Drawing → List ℕ
behind lanes drawing =
    flat_map (lane_svg (length drawing.rows)) (numbers_from 1 lanes)
    ++ flat_map (bar_svg (length drawing.rows)) drawing.bars
    ++ flat_map (arrow_svg drawing.rows) drawing.arrows

-- a drawing with so many lanes
abbrev pub svg_with : Places → WindowForm → ℕ → Drawing → List ℕ
svg_with places window lanes drawing =
    head lanes (length drawing.rows) (longest_place places window drawing.rows)
    ++ behind lanes drawing ++ rows_svg places window lanes 0 drawing.rows ++ codes "</svg>\n"

-- the drawing of a story of a window, a lane for each thread of the window
unfoldable pub svg : Places → WindowForm → Drawing → List ℕ
svg places window drawing = svg_with places window (length window.segments) drawing

-- the tip of all arrows of a page, which ends at the rim of a circle: a page has it once, before its drawings
unfoldable pub tip : List ℕ
tip =
    codes "<svg class='tips' width='0' height='0'><defs><marker id='tip' refX='14' refY='4' markerWidth='8' markerHeight='8' markerUnits='userSpaceOnUse' orient='auto'><path class='tip' d='M0 0L8 4L0 8z'/></marker></defs></svg>\n"
