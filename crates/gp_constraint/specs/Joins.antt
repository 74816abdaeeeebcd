-- Joins: a join of a thread is executed only where the thread has ended.
use Rattle.std.specs.Prelude.{ℕ, suc, Bool, false, ◌==◌, ◌&&◌, List, [], ◌∷◌, if◌then◌else◌, flat_map, find}
use Rattle.gp_window.specs.Events.{size_of}
use Rattle.gp_window.specs.Starts.{is_among}
use Rattle.gp_window.specs.WindowForm.{WindowForm}
use Rattle.gp_constraint.specs.declared.action.Action.{Action}
use Rattle.gp_constraint.specs.declared.action.Action.TheVariants.{Join}
use Rattle.gp_constraint.specs.declared.point.Point.{Point}
use Rattle.gp_constraint.specs.declared.symbol.SymbolicLit.{SymbolicLit}
use Rattle.gp_constraint.specs.Starts.{is_start_of}
use Rattle.gp_constraint.specs.Terms.{executed, needs, simplified}

-- whether the event is the last of a thread
abbrev pub is_last_of : WindowForm → ℕ → Point → Bool
is_last_of window thread p = p.id.thread == thread && suc p.id.index == size_of window thread

-- of a thread that exits: its last event comes before the join; where it has none, its start does
abbrev pub ended : WindowForm → List Point → Point → ℕ → List (List SymbolicLit)
ended window points j thread =
    if size_of window thread == 0
    then (if is_among window.started thread then [] else needs j (find (is_start_of thread) points))
    else needs j (find (is_last_of window thread) points)

-- what a join of the thread needs: that the thread exits, and has ended
abbrev pub joined : WindowForm → List Point → Point → ℕ → List (List SymbolicLit)
joined window points j thread =
    if is_among window.exited thread then ended window points j thread else simplified (executed j false ∷ [])

abbrev pub joined_by : WindowForm → List Point → Point → Action → List (List SymbolicLit)
joined_by window points j (Join thread) = joined window points j thread
joined_by window points j _ = []

-- of a join
abbrev pub join_of : WindowForm → List Point → Point → List (List SymbolicLit)
join_of window points j = joined_by window points j j.action

-- for each event
abbrev pub joins : WindowForm → List Point → List (List SymbolicLit)
joins window points = flat_map (join_of window points) points
