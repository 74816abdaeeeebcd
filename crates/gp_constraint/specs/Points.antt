-- The points of a window: its events in the order of thread and index, numbered from 0.
use Rattle.std.specs.Prelude.{ℕ, zero, suc, ◌+◌, List, [], ◌∷◌, ◌++◌, length, map}
use Rattle.gp_trace.specs.declared.event.Event.{Event}
use Rattle.gp_window.specs.declared.schedule.EventId.{EventId}
use Rattle.gp_window.specs.WindowForm.{WindowForm}
use Rattle.gp_constraint.specs.declared.point.Point.{Point}
use Rattle.gp_constraint.specs.Action.{action_of}

-- the points of the events of a thread, from this index and this number on
abbrev pub points_in : ℕ → ℕ → ℕ → List Event → List Point
points_in thread index number [] = []
points_in thread index number (event ∷ events) =
    record { number = number; id = record { thread = thread; index = index }; action = action_of event }
    ∷ points_in thread (suc index) (suc number) events

-- the points of segments, from this thread and this number on
abbrev pub points_from : ℕ → ℕ → List (List Event) → List Point
points_from thread number [] = []
points_from thread number (segment ∷ segments) =
    points_in thread 0 number segment ++ points_from (suc thread) (number + length segment) segments

-- the points of a window
abbrev pub points_of : WindowForm → List Point
points_of window = points_from 1 0 window.segments

-- how many events the threads of a window have
abbrev pub sizes_of : WindowForm → List ℕ
sizes_of window = map (λ segment. length segment) window.segments

-- how many events so many first threads have together
abbrev pub first_of : List ℕ → ℕ → ℕ
first_of sizes zero = 0
first_of [] (suc place) = 0
first_of (size ∷ sizes) (suc place) = size + first_of sizes place

-- the number of an event among threads of these sizes; threads count from 1
abbrev pub number_at : List ℕ → ℕ → ℕ → ℕ
number_at sizes zero index = index
number_at sizes (suc place) index = first_of sizes place + index

-- the number of an event of a window
abbrev pub number_in : WindowForm → EventId → ℕ
number_in window id = number_at (sizes_of window) id.thread id.index
