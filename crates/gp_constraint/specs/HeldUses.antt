-- Of a lock that is held at the start, where the end of the hold is known.
use Rattle.std.specs.Prelude.{not, ◌==◌, ◌&&◌, List, [], Option, if◌then◌else◌}
use Rattle.gp_window.specs.Holders.{Holding}
use Rattle.gp_constraint.specs.declared.point.Point.{Point}
use Rattle.gp_constraint.specs.declared.symbol.SymbolicLit.{SymbolicLit}
use Rattle.gp_constraint.specs.Sections.{takes_against}
use Rattle.gp_constraint.specs.Terms.{needs}

-- of an event of another thread that takes the lock against a hold that ends so
abbrev pub held_with : Option Point → Holding → Point → List (List SymbolicLit)
held_with found hold c =
    if takes_against hold.1 hold.0.0 c.action && not (c.id.thread == hold.0.1) then needs c found else []
