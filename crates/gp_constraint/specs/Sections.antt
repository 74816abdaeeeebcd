-- Sections of locks: of two sections of one lock in different threads, not both of readers, one ends before the other begins.
use Rattle.std.specs.Prelude.{ℕ, suc, Bool, true, false, ◌==◌, ◌&&◌, List, [], ◌∷◌, ◌++◌, if◌then◌else◌, flat_map, find, nat_le, nat_lt}
use Rattle.std.specs.Str.{bytes_eq}
use Rattle.gp_trace.specs.declared.lock_use.LockMode.{LockMode}
use Rattle.gp_trace.specs.declared.lock_use.LockMode.TheVariants.{Exclusive, Shared}
use Rattle.gp_trace.specs.declared.lock_use.LockUse.TheVariants.{Take, GiveBack}
use Rattle.gp_constraint.specs.declared.action.Action.{Action}
use Rattle.gp_constraint.specs.declared.action.Action.TheVariants.{Lock}
use Rattle.gp_constraint.specs.declared.point.Point.{Point}
use Rattle.gp_constraint.specs.declared.symbol.SymbolicLit.{SymbolicLit}
use Rattle.gp_constraint.specs.Terms.{executed, first, preceded}

-- whether a lock cannot be held in both ways at once by different threads
abbrev pub exclude : LockMode → LockMode → Bool
exclude Shared Shared = false
exclude _ _ = true

-- whether two ways to hold a lock are the same
abbrev pub same_mode : LockMode → LockMode → Bool
same_mode Exclusive Exclusive = true
same_mode Shared Shared = true
same_mode _ _ = false

-- whether the lock is taken in a way that excludes this one
abbrev pub takes_against : LockMode → List ℕ → Action → Bool
takes_against mode lock (Lock (Take other again)) = bytes_eq again lock && exclude mode other
takes_against mode lock _ = false

-- whether the lock is given back that was held in this way
abbrev pub gives_back : LockMode → List ℕ → Action → Bool
gives_back mode lock (Lock (GiveBack other again)) = bytes_eq again lock && same_mode other mode
gives_back mode lock _ = false

-- whether the event is one by which the thread, from an index on, gives the lock back
abbrev pub ends_hold : LockMode → List ℕ → ℕ → ℕ → Point → Bool
ends_hold mode lock thread from p =
    p.id.thread == thread && (nat_le from p.id.index && gives_back mode lock p.action)

-- the two orders of the sections that a and c begin, each held in its way: the one that comes first ends before the other begins
abbrev pub in_either_order : List Point → Point → LockMode → Point → LockMode → List ℕ → List (List SymbolicLit)
in_either_order points a mode c other lock =
    preceded (executed a false ∷ executed c false ∷ first a c false ∷ []) (find (ends_hold mode lock a.id.thread (suc a.id.index)) points) c
    ++ preceded (executed a false ∷ executed c false ∷ first a c true ∷ []) (find (ends_hold other lock c.id.thread (suc c.id.index)) points) a

-- of two events that take one lock, of which the first has the lesser thread, not both as readers
abbrev pub apart : List Point → Point → Point → Action → Action → List (List SymbolicLit)
apart points a c (Lock (Take mode lock)) (Lock (Take other again)) =
    if bytes_eq lock again && (exclude mode other && nat_lt a.id.thread c.id.thread) then in_either_order points a mode c other lock else []
apart points a c _ _ = []

-- of two events
abbrev pub sections_apart : List Point → Point → Point → List (List SymbolicLit)
sections_apart points a c = apart points a c a.action c.action

-- for each two events
abbrev pub sections : List Point → List (List SymbolicLit)
sections points = flat_map (λ a. flat_map (sections_apart points a) points) points
