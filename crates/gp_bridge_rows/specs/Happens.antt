-- A small family of clauses that is put behind those of a window.
use Rattle.std.specs.Prelude.{◌==◌, ◌&&◌, ◌++◌, Bool, true, false, List, [], ◌∷◌, if◌then◌else◌, flat_map}
use Rattle.gp_window.specs.declared.schedule.EventId.{EventId}
use Rattle.gp_window.specs.WindowForm.{WindowForm}
use Rattle.gp_constraint.specs.declared.point.Point.{Point}
use Rattle.gp_constraint.specs.declared.symbol.Symbol.TheVariants.{Last}
use Rattle.gp_constraint.specs.declared.symbol.SymbolicLit.{SymbolicLit}
use Rattle.gp_constraint.specs.Points.{points_of}
use Rattle.gp_constraint.specs.Terms.{executed, literal, simplified}

-- the event of a point is this one
abbrev pub is_event : EventId → Point → Bool
is_event event p = p.id.thread == event.thread && p.id.index == event.index

-- at the point of the event: a symbol that no clause of a window names is true, and with it the event is executed
abbrev pub happens_at : EventId → Point → List (List SymbolicLit)
happens_at event p =
    if is_event event p then simplified (literal (Last p.number) true ∷ []) ++ simplified (literal (Last p.number) false ∷ executed p true ∷ [])
    else []

-- the event is executed, where it is one of the points
abbrev pub happens : EventId → List Point → List (List SymbolicLit)
happens event points = flat_map (happens_at event) points

abbrev pub happens_in : EventId → WindowForm → List (List SymbolicLit)
happens_in event window = happens event (points_of window)
