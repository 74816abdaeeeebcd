-- Where the lanes and rows of a drawing stand, in whole numbers.
use Rattle.std.specs.Prelude.{ℕ, ◌+◌, ◌-◌, ◌*◌, List, Option, Some, None, slice_get}
use Rattle.gp_drawing.specs.declared.drawing.DrawnRow.{DrawnRow}
use Rattle.gp_drawing.specs.Rows.{thread_of}

-- the middle of a lane; lanes count from 0
abbrev pub lane_x : ℕ → ℕ
lane_x lane = 40 + 48 * lane

-- the middle of a row; rows count from 0
abbrev pub row_y : ℕ → ℕ
row_y row = 30 + 22 * row

-- the middle of a thread's lane; threads count from 1
abbrev pub thread_x : ℕ → ℕ
thread_x thread = lane_x (thread - 1)

-- the thread in whose lane a row stands, where there is one
abbrev pub thread_found : Option DrawnRow → ℕ
thread_found (Some row) = thread_of row
thread_found None = 0

-- the middle of the lane in which one of these rows stands
abbrev pub x_at : List DrawnRow → ℕ → ℕ
x_at rows row = thread_x (thread_found (slice_get rows row))

-- where a bar begins: at its row, or at the top
abbrev pub begin_y : Option ℕ → ℕ
begin_y (Some row) = row_y row
begin_y None = 20

-- where a bar ends: at its row, or below the last of so many rows
abbrev pub end_y : ℕ → Option ℕ → ℕ
end_y rows (Some row) = row_y row
end_y rows None = row_y rows

-- how wide a drawing of so many lanes is, with the words right of them, of which so many bytes tell a place, eight units each
abbrev pub width : ℕ → ℕ → ℕ
width lanes longest = lane_x lanes + 400 + 8 * longest

-- how high a drawing of so many rows is
abbrev pub height : ℕ → ℕ
height rows = row_y rows + 10
