-- The last points of the threads.
use Rattle.std.specs.Prelude.{suc, Bool, ◌==◌, List, filter}
use Rattle.gp_window.specs.Events.{size_of}
use Rattle.gp_window.specs.WindowForm.{WindowForm}
use Rattle.gp_constraint.specs.declared.point.Point.{Point}

-- whether the event is the last of its thread
abbrev pub is_last : WindowForm → Point → Bool
is_last window p = suc p.id.index == size_of window p.id.thread

-- the last points of all threads
abbrev pub lasts_of : WindowForm → List Point → List Point
lasts_of window points = filter (is_last window) points
