-- What a thread may do where it holds these locks and is in these regions.
use Rattle.std.specs.Prelude.{◌≡◌, ℕ, ◌-◌, Bool, true, false, ◌==◌, if◌then◌else◌, List, [], ◌∷◌, ◌++◌, length, take, slice_get, is_some, Option, Some, None, Result, Ok, Err}
use Rattle.std.specs.Str.{bytes_eq}
use Rattle.gp_trace.specs.declared.event.Event.{Event}
use Rattle.gp_trace.specs.declared.event.Event.TheVariants.{Start, Join, Begin, End}
use Rattle.gp_trace.specs.declared.fault.TraceFault.{TraceFault}
use Rattle.gp_trace.specs.declared.fault.TraceFault.TheVariants.{NameSelf, ReleaseUnheld, AcquireHeld, RegionUnmatched}
use Rattle.gp_trace.specs.declared.lock_use.LockMode.{LockMode}
use Rattle.gp_trace.specs.declared.lock_use.LockMode.TheVariants.{Exclusive, Shared}
use Rattle.gp_trace.specs.declared.lock_use.LockUse.{LockUse}
use Rattle.gp_trace.specs.declared.lock_use.LockUse.TheVariants.{Take, GiveBack}
use Rattle.gp_trace.specs.declared.rules.Standing.{Standing}
use Rattle.gp_trace.specs.LockUse.{held_after_use, HeldLocks, lock_use_of, mode_held}

-- a thread that holds no lock and has begun no region
abbrev pub at_first : Standing
at_first = record { held = []; begun = [] }

-- whether this is the name that is there
abbrev pub is_named : Option (List ℕ) → List ℕ → Bool
is_named (Some other) name = bytes_eq other name
is_named None name = false

-- whether this region is the innermost: the last that was begun and not ended
abbrev pub is_innermost : List (List ℕ) → List ℕ → Bool
is_innermost begun region = is_named (slice_get begun (length begun - 1)) region

-- whether a lock that may be held is held in this way
abbrev pub is_held_as : LockMode → Option LockMode → Bool
is_held_as Exclusive (Some Exclusive) = true
is_held_as Shared (Some Shared) = true
is_held_as _ _ = false

-- where the thread stands after the event
abbrev pub after : Standing → Event → Standing
after s (Begin region) = record s { begun = s.begun ++ region ∷ [] }
after s (End region) = record s { begun = take (length s.begun - 1) s.begun }
after s event = record s { held = held_after_use s.held (lock_use_of event) }

-- the fault of a use of a lock, told by its line: it takes one that is held in either way, or gives
-- back one that is not held in that way
abbrev pub lock_fault : HeldLocks → Option LockUse → Option (ℕ → TraceFault)
lock_fault held None = None
lock_fault held (Some (Take mode lock)) = if is_some (mode_held held lock) then Some AcquireHeld else None
lock_fault held (Some (GiveBack mode lock)) = if is_held_as mode (mode_held held lock) then None else Some ReleaseUnheld

-- the fault of an event of the thread of this number, told by its line, where it breaks a rule
abbrev pub fault_of : ℕ → Standing → Event → Option (ℕ → TraceFault)
fault_of thread s (Start other) = if other == thread then Some NameSelf else None
fault_of thread s (Join other) = if other == thread then Some NameSelf else None
fault_of thread s (End region) = if is_innermost s.begun region then None else Some RegionUnmatched
fault_of thread s event = lock_fault s.held (lock_use_of event)

-- the answer that tells a fault, where there is one, with its line
abbrev pub in_line : ℕ → Option (ℕ → TraceFault) → Result (Unit {0}) TraceFault
in_line n None = Ok tt
in_line n (Some fault) = Err (fault n)

-- whether the event in line n breaks a rule
abbrev pub check : ℕ → ℕ → Standing → Event → Result (Unit {0}) TraceFault
check thread n s event = in_line n (fault_of thread s event)

-- where the thread stands after the events
abbrev pub after_all : Standing → List Event → Standing
after_all s [] = s
after_all s (event ∷ events) = after_all (after s event) events

-- the events of the thread break no rule, one after another
abbrev pub AreWellFormed : ℕ → Standing → List Event → Type 0
AreWellFormed thread s [] = Unit {0}
AreWellFormed thread s (event ∷ events) = (fault_of thread s event ≡ None) × AreWellFormed thread (after s event) events
