-- Nothing that stands in a window or is told of places is read as markup: each element of a drawing has the program's own.
use Rattle.std.proofs.Common.{◌≡◌, ℕ, ◌+◌, true, false, List, [], ◌∷◌, ◌++◌, codes, decimal, length, refl}
use Rattle.std.specs.List.{flat_map}
use Rattle.gp_trace.specs.declared.lock_use.LockMode.{LockMode}
use Rattle.gp_trace.specs.declared.lock_use.LockMode.TheVariants.{Exclusive, Shared}
use Rattle.gp_place.specs.declared.places.Places.{Places}
use Rattle.gp_window.specs.WindowForm.{numbers_from, WindowForm}
use Rattle.gp_drawing.specs.declared.drawing.Arrow.{Arrow}
use Rattle.gp_drawing.specs.declared.drawing.ArrowKind.{ArrowKind}
use Rattle.gp_drawing.specs.declared.drawing.ArrowKind.TheVariants.{Read, Lock, Join, Start}
use Rattle.gp_drawing.specs.declared.drawing.Bar.{Bar}
use Rattle.gp_drawing.specs.declared.drawing.Drawing.{Drawing}
use Rattle.gp_drawing.specs.declared.drawing.DrawnRow.{DrawnRow}
use Rattle.gp_drawing.specs.declared.drawing.DrawnRow.TheVariants.{One, Several}
use Rattle.gp_drawing.specs.Markup.{DrawingsHaveOwnMarkup, HasOwnMarkup}
use Rattle.gp_drawing.specs.MarkupLaws.{is_own_markup, markup_after, markup_append, markup_before, markup_by_test, markup_decimal, markup_flat_map, markup_nil, markup_words}
use Rattle.gp_drawing.specs.Places.{begin_y, end_y, height, lane_x, row_y, thread_x, width, x_at}
use Rattle.gp_drawing.specs.Rows.{thread_of}
use Rattle.gp_drawing.specs.Svg.{arrow_class, arrow_line, arrow_svg, attribute, bar_class, bar_svg, bar_title, behind, between, circle, head, lane_line, lane_name, lane_svg, pair, point, row_class, row_svg, row_text, row_title, rows_svg, stroke, svg, tag, tip, view, words_at}
use Rattle.gp_drawing.specs.Words.{longest_place, row_words}

attribute_own : (name : List ℕ) (value : ℕ) → HasOwnMarkup name → HasOwnMarkup (attribute name value)
attribute_own name value own =
    markup_before (codes " " ++ name ++ codes "='" ++ decimal value) (codes "'")
    (markup_append (codes " " ++ name ++ codes "='") (decimal value)
    (markup_before (codes " " ++ name) (codes "='") (markup_after (codes " ") name refl own) refl) (markup_decimal value)) refl

point_own : (x_name : List ℕ) (x : ℕ) (y_name : List ℕ) (y : ℕ) → is_own_markup x_name ≡ true → is_own_markup y_name ≡ true → HasOwnMarkup (point x_name x y_name y)
point_own x_name x y_name y own other =
    markup_append (attribute x_name x) (attribute y_name y) (attribute_own x_name x (markup_by_test x_name own)) (attribute_own y_name y (markup_by_test y_name other))

pair_own : (before : List ℕ) (x y : ℕ) → is_own_markup before ≡ true → HasOwnMarkup (pair before x y)
pair_own before x y own =
    markup_before (before ++ decimal x ++ codes " " ++ decimal y) (codes "'")
    (markup_append (before ++ decimal x ++ codes " ") (decimal y)
    (markup_before (before ++ decimal x) (codes " ") (markup_after before (decimal x) own (markup_decimal x)) refl) (markup_decimal y)) refl

-- the tag's name has to be known, its class has not
tag_own : (name class : List ℕ) → is_own_markup (codes "<" ++ name ++ codes " class='") ≡ true → HasOwnMarkup class → HasOwnMarkup (tag name class)
tag_own name class known own =
    markup_before (codes "<" ++ name ++ codes " class='" ++ class) (codes "'") (markup_after (codes "<" ++ name ++ codes " class='") class known own) refl

stroke_own : (class : List ℕ) (x1 y1 x2 y2 : ℕ) → HasOwnMarkup class → HasOwnMarkup (stroke class x1 y1 x2 y2)
stroke_own class x1 y1 x2 y2 own =
    markup_append (tag (codes "line") class ++ point (codes "x1") x1 (codes "y1") y1) (point (codes "x2") x2 (codes "y2") y2)
    (markup_append (tag (codes "line") class) (point (codes "x1") x1 (codes "y1") y1)
    (tag_own (codes "line") class refl own) (point_own (codes "x1") x1 (codes "y1") y1 refl refl)) (point_own (codes "x2") x2 (codes "y2") y2 refl refl)

words_at_own : (class : List ℕ) (x y : ℕ) → HasOwnMarkup class → HasOwnMarkup (words_at class x y)
words_at_own class x y own =
    markup_before (tag (codes "text") class ++ point (codes "x") x (codes "y") y) (codes ">")
    (markup_append (tag (codes "text") class) (point (codes "x") x (codes "y") y)
    (tag_own (codes "text") class refl own) (point_own (codes "x") x (codes "y") y refl refl)) refl

lane_line_own : (rows thread : ℕ) → HasOwnMarkup (lane_line rows thread)
lane_line_own rows thread =
    markup_before (stroke (codes "lane") (thread_x thread) 20 (thread_x thread) (row_y rows)) (codes "/>\n")
    (stroke_own (codes "lane") (thread_x thread) 20 (thread_x thread) (row_y rows) (markup_by_test (codes "lane") refl)) refl

lane_name_own : (thread : ℕ) → HasOwnMarkup (lane_name thread)
lane_name_own thread =
    markup_before (words_at (codes "thread") (thread_x thread) 14 ++ decimal thread) (codes "</text>\n")
    (markup_append (words_at (codes "thread") (thread_x thread) 14) (decimal thread)
    (words_at_own (codes "thread") (thread_x thread) 14 (markup_by_test (codes "thread") refl)) (markup_decimal thread)) refl

lane_own : (rows thread : ℕ) → HasOwnMarkup (lane_svg rows thread)
unfolding lane_svg
lane_own rows thread = markup_append (lane_line rows thread) (lane_name thread) (lane_line_own rows thread) (lane_name_own thread)

bar_class_own : (mode : LockMode) → HasOwnMarkup (bar_class mode)
bar_class_own Exclusive = markup_by_test (codes "bar") refl
bar_class_own Shared = markup_by_test (codes "bar shared") refl

bar_own : (rows : ℕ) (bar : Bar) → HasOwnMarkup (bar_svg rows bar)
unfolding bar_svg
bar_own rows bar =
    markup_append (stroke (bar_class bar.mode) (thread_x bar.thread) (begin_y bar.from) (thread_x bar.thread) (end_y rows bar.to)) (bar_title bar.lock)
    (stroke_own (bar_class bar.mode) (thread_x bar.thread) (begin_y bar.from) (thread_x bar.thread) (end_y rows bar.to) (bar_class_own bar.mode))
    (markup_words (codes "><title>lock ") bar.lock (codes "</title></line>\n") refl refl)

arrow_class_own : (kind : ArrowKind) → HasOwnMarkup (arrow_class kind)
arrow_class_own Read = markup_by_test (codes "arrow read") refl
arrow_class_own Lock = markup_by_test (codes "arrow lock") refl
arrow_class_own Join = markup_by_test (codes "arrow join") refl
arrow_class_own Start = markup_by_test (codes "arrow start") refl

arrow_line_own : (class : List ℕ) (x1 y1 x2 y2 : ℕ) → HasOwnMarkup class → HasOwnMarkup (arrow_line class x1 y1 x2 y2)
unfolding arrow_line
arrow_line_own class x1 y1 x2 y2 own =
    markup_before (stroke class x1 y1 x2 y2) (codes " marker-end='url(#tip)'/>\n") (stroke_own class x1 y1 x2 y2 own) refl

arrow_own : (rows : List DrawnRow) (arrow : Arrow) → HasOwnMarkup (arrow_svg rows arrow)
unfolding arrow_svg
arrow_own rows arrow =
    arrow_line_own (arrow_class arrow.kind) (x_at rows arrow.from) (row_y arrow.from) (x_at rows arrow.to) (row_y arrow.to) (arrow_class_own arrow.kind)

row_class_own : (drawn : DrawnRow) → HasOwnMarkup (row_class drawn)
row_class_own (One event true) = markup_by_test (codes "event marked") refl
row_class_own (One event false) = markup_by_test (codes "event") refl
row_class_own (Several span) = markup_by_test (codes "run") refl

circle_own : (drawn : DrawnRow) (row : ℕ) → HasOwnMarkup (circle drawn row)
unfolding circle
circle_own drawn row =
    markup_before (tag (codes "circle") (row_class drawn) ++ point (codes "cx") (thread_x (thread_of drawn)) (codes "cy") (row_y row)) (codes " r='6'/>")
    (markup_append (tag (codes "circle") (row_class drawn)) (point (codes "cx") (thread_x (thread_of drawn)) (codes "cy") (row_y row))
    (tag_own (codes "circle") (row_class drawn) refl (row_class_own drawn)) (point_own (codes "cx") (thread_x (thread_of drawn)) (codes "cy") (row_y row) refl refl)) refl

row_title_own : (words : List ℕ) → HasOwnMarkup (row_title words)
unfolding row_title
row_title_own words = markup_words (codes "<g class='row'><title>") words (codes "</title>") refl refl

row_text_own : (lanes row : ℕ) (words : List ℕ) → HasOwnMarkup (row_text lanes row words)
unfolding row_text
row_text_own lanes row words =
    markup_append (words_at (codes "words") (lane_x lanes) (row_y row + 4)) (between [] words (codes "</text></g>\n"))
    (words_at_own (codes "words") (lane_x lanes) (row_y row + 4) (markup_by_test (codes "words") refl)) (markup_words [] words (codes "</text></g>\n") refl refl)

row_own : (places : Places) (window : WindowForm) (lanes row : ℕ) (drawn : DrawnRow) → HasOwnMarkup (row_svg places window lanes row drawn)
unfolding row_svg
row_own places window lanes row drawn =
    let words = row_words places window drawn in
    markup_append (row_title words ++ circle drawn row) (row_text lanes row words)
    (markup_append (row_title words) (circle drawn row) (row_title_own words) (circle_own drawn row)) (row_text_own lanes row words)

rows_own : (places : Places) (window : WindowForm) (lanes row : ℕ) (drawn : List DrawnRow) → HasOwnMarkup (rows_svg places window lanes row drawn)
rows_own places window lanes row [] = markup_nil
rows_own places window lanes row (first ∷ more) =
    markup_append (row_svg places window lanes row first) (rows_svg places window lanes (row + 1) more) (row_own places window lanes row first) (rows_own places window lanes (row + 1) more)

view_own : (across down : ℕ) → HasOwnMarkup (view across down)
unfolding view
view_own across down =
    markup_append (tag (codes "svg") (codes "drawing")) (pair (codes " viewBox='0 0 ") across down)
    (tag_own (codes "svg") (codes "drawing") refl (markup_by_test (codes "drawing") refl)) (pair_own (codes " viewBox='0 0 ") across down refl)

head_own : (lanes rows longest : ℕ) → HasOwnMarkup (head lanes rows longest)
unfolding head
head_own lanes rows longest =
    markup_before (view (width lanes longest) (height rows) ++ point (codes "width") (width lanes longest) (codes "height") (height rows)) (codes ">\n")
    (markup_append (view (width lanes longest) (height rows)) (point (codes "width") (width lanes longest) (codes "height") (height rows))
    (view_own (width lanes longest) (height rows)) (point_own (codes "width") (width lanes longest) (codes "height") (height rows) refl refl)) refl

behind_own : (lanes : ℕ) (drawing : Drawing) → HasOwnMarkup (behind lanes drawing)
unfolding behind
behind_own lanes drawing =
    let rows = length drawing.rows in
    let threads = numbers_from 1 lanes in
    markup_append (flat_map (lane_svg rows) threads ++ flat_map (bar_svg rows) drawing.bars) (flat_map (arrow_svg drawing.rows) drawing.arrows)
    (markup_append (flat_map (lane_svg rows) threads) (flat_map (bar_svg rows) drawing.bars)
    (markup_flat_map (lane_svg rows) threads (lane_own rows)) (markup_flat_map (bar_svg rows) drawing.bars (bar_own rows)))
    (markup_flat_map (arrow_svg drawing.rows) drawing.arrows (arrow_own drawing.rows))

svg_own : (places : Places) (window : WindowForm) (drawing : Drawing) → HasOwnMarkup (svg places window drawing)
unfolding svg
svg_own places window drawing =
    let lanes = length window.segments in
    let longest = longest_place places window drawing.rows in
    let top = head lanes (length drawing.rows) longest in
    let rows = rows_svg places window lanes 0 drawing.rows in
    markup_before (top ++ behind lanes drawing ++ rows) (codes "</svg>\n")
    (markup_append (top ++ behind lanes drawing) rows
    (markup_append top (behind lanes drawing) (head_own lanes (length drawing.rows) longest) (behind_own lanes drawing)) (rows_own places window lanes 0 drawing.rows)) refl

tip_own : HasOwnMarkup tip
unfolding tip
tip_own = markup_by_test tip refl

pub drawings_own : DrawingsHaveOwnMarkup
drawings_own = record { drawing = svg_own; tip = tip_own }
