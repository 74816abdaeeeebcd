-- Locks held when the window begins: who holds one gives it back before another thread takes it against that.
use Rattle.std.specs.Prelude.{not, ◌==◌, ◌&&◌, List, [], if◌then◌else◌, flat_map, find}
use Rattle.gp_window.specs.Holders.{Holding}
use Rattle.gp_window.specs.WindowForm.{WindowForm, held_at_start}
use Rattle.gp_constraint.specs.declared.point.Point.{Point}
use Rattle.gp_constraint.specs.declared.symbol.SymbolicLit.{SymbolicLit}
use Rattle.gp_constraint.specs.Sections.{ends_hold, takes_against}
use Rattle.gp_constraint.specs.Terms.{needs}

-- of an event of another thread that takes the lock against the hold
abbrev pub held_apart : List Point → Holding → Point → List (List SymbolicLit)
held_apart points hold c =
    if takes_against hold.1 hold.0.0 c.action && not (c.id.thread == hold.0.1)
    then needs c (find (ends_hold hold.1 hold.0.0 hold.0.1 0) points) else []

-- for each lock held when the window begins, and each event
abbrev pub held_locks : WindowForm → List Point → List (List SymbolicLit)
held_locks window points = flat_map (λ hold. flat_map (held_apart points hold) points) (held_at_start window)
