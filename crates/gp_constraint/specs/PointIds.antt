-- The events of points, by number.
use Rattle.std.specs.Prelude.{ℕ, List, Option, Some, None, slice_get}
use Rattle.gp_window.specs.declared.schedule.EventId.{EventId}
use Rattle.gp_constraint.specs.declared.point.Point.{Point}

-- the event of a point
abbrev pub id_in : Option Point → EventId
id_in (Some p) = p.id
id_in None = record { thread = 0; index = 0 }

-- the event of the point of this number
abbrev pub id_at : List Point → ℕ → EventId
id_at points number = id_in (slice_get points number)
