-- The sections of a window, each with its end, and those of a lock.
use Rattle.std.specs.Prelude.{ℕ, suc, true, false, ◌&&◌, ◌∷◌, ◌++◌, List, [], if◌then◌else◌, filter, find, flat_map, nat_lt}
use Rattle.std.specs.Str.{bytes_eq}
use Rattle.gp_trace.specs.declared.lock_use.LockUse.TheVariants.{Take}
use Rattle.gp_constraint.specs.declared.action.Action.{Action}
use Rattle.gp_constraint.specs.declared.action.Action.TheVariants.{Lock}
use Rattle.gp_constraint.specs.declared.point.Point.{Point}
use Rattle.gp_constraint.specs.declared.section.Section.{Section}
use Rattle.gp_constraint.specs.declared.symbol.SymbolicLit.{SymbolicLit}
use Rattle.gp_constraint.specs.Sections.{ends_hold, exclude}
use Rattle.gp_constraint.specs.Terms.{executed, first, preceded}

-- the section that an action of a point begins, where it begins one
abbrev pub section_with : List Point → Point → Action → List Section
section_with points p (Lock (Take mode lock)) =
    record { begin = p; mode = mode; lock = lock; end = find (ends_hold mode lock p.id.thread (suc p.id.index)) points } ∷ []
section_with points p _ = []

-- the section that a point begins, where it begins one
abbrev pub section_at : List Point → Point → List Section
section_at points p = section_with points p p.action

-- the sections of points
abbrev pub sections_in : List Point → List Section
sections_in points = flat_map (section_at points) points

-- the sections of a lock
abbrev pub sections_on : List ℕ → List Section → List Section
sections_on lock sections = filter (λ s. bytes_eq s.lock lock) sections

-- of two sections in different threads, the first in the lesser, not both of readers: one ends before the other begins
abbrev pub sections_between : Section → Section → List (List SymbolicLit)
sections_between a c =
    if exclude a.mode c.mode && nat_lt a.begin.id.thread c.begin.id.thread
    then preceded (executed a.begin false ∷ executed c.begin false ∷ first a.begin c.begin false ∷ []) a.end c.begin
    ++ preceded (executed a.begin false ∷ executed c.begin false ∷ first a.begin c.begin true ∷ []) c.end a.begin
    else []
