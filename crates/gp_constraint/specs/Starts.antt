-- Starts: a thread that is not started when the window begins has a first event only after its start.
use Rattle.std.specs.Prelude.{ℕ, Bool, false, not, ◌==◌, ◌&&◌, List, [], if◌then◌else◌, flat_map, find}
use Rattle.gp_window.specs.Starts.{is_among}
use Rattle.gp_window.specs.WindowForm.{WindowForm}
use Rattle.gp_constraint.specs.declared.action.Action.{Action}
use Rattle.gp_constraint.specs.declared.action.Action.TheVariants.{Start}
use Rattle.gp_constraint.specs.declared.point.Point.{Point}
use Rattle.gp_constraint.specs.declared.symbol.SymbolicLit.{SymbolicLit}
use Rattle.gp_constraint.specs.Terms.{needs}

-- whether the thread is started
abbrev pub does_start : ℕ → Action → Bool
does_start thread (Start other) = other == thread
does_start thread _ = false

-- whether the event starts the thread
abbrev pub is_start_of : ℕ → Point → Bool
is_start_of thread p = does_start thread p.action

-- of the first event of such a thread: the start comes before it; where there is none it is not executed
abbrev pub start_of : WindowForm → List Point → Point → List (List SymbolicLit)
start_of window points f =
    if f.id.index == 0 && not (is_among window.started f.id.thread) then needs f (find (is_start_of f.id.thread) points) else []

-- for each event
abbrev pub starts : WindowForm → List Point → List (List SymbolicLit)
starts window points = flat_map (start_of window points) points
