-- How events use locks, and which locks a thread holds.
use Rattle.std.specs.Prelude.{◌≡◌, ℕ, Bool, true, false, List, [], ◌∷◌, Option, Some, None}
use Rattle.std.specs.Cmp.Lexicographic.{slice_cmp}
use Rattle.std.specs.List.{list_any}
use Rattle.std.specs.Ordering.{nat_cmp}
use Rattle.gp_trace.specs.declared.event.Event.{Event}
use Rattle.gp_trace.specs.declared.event.Event.TheVariants.{Acquire, Release, RAcquire, RRelease}
use Rattle.gp_trace.specs.declared.lock_use.LockMode.{LockMode}
use Rattle.gp_trace.specs.declared.lock_use.LockMode.TheVariants.{Exclusive, Shared}
use Rattle.gp_trace.specs.declared.lock_use.LockUse.{LockUse}
use Rattle.gp_trace.specs.declared.lock_use.LockUse.TheVariants.{Take, GiveBack}
use Rattle.gp_base.specs.Table.{value_at, with_entry, without_entry}

-- how an event uses a lock, where it uses one
abbrev pub lock_use_of : Event → Option LockUse
lock_use_of (Acquire lock) = Some (Take Exclusive lock)
lock_use_of (Release lock) = Some (GiveBack Exclusive lock)
lock_use_of (RAcquire lock) = Some (Take Shared lock)
lock_use_of (RRelease lock) = Some (GiveBack Shared lock)
lock_use_of _ = None

-- the locks that a thread holds, in the order of their names, each with how it is held
abbrev pub HeldLocks : Type 0
HeldLocks = List (List ℕ × LockMode)

-- how the lock is held, where it is
abbrev pub mode_held : HeldLocks → List ℕ → Option LockMode
mode_held held lock = value_at (slice_cmp nat_cmp) held lock

-- the locks that are held after a use of one
abbrev pub held_after_use : HeldLocks → Option LockUse → HeldLocks
held_after_use held None = held
held_after_use held (Some (Take mode lock)) = with_entry (slice_cmp nat_cmp) held lock mode
held_after_use held (Some (GiveBack mode lock)) = without_entry (slice_cmp nat_cmp) held lock

-- the locks that a thread holds after its events
abbrev pub held_after_all : HeldLocks → List Event → HeldLocks
held_after_all held [] = held
held_after_all held (event ∷ events) = held_after_all (held_after_use held (lock_use_of event)) events

-- a use of a lock takes one that is held in neither way, or gives back one that is held in that way
abbrev pub IsGoodUse : HeldLocks → Option LockUse → Type 0
IsGoodUse held None = Unit {0}
IsGoodUse held (Some (Take mode lock)) = mode_held held lock ≡ None
IsGoodUse held (Some (GiveBack mode lock)) = mode_held held lock ≡ Some mode

-- the events of a thread that holds these locks use locks well, one after another
abbrev pub LocksAreUsedWell : HeldLocks → List Event → Type 0
LocksAreUsedWell held [] = Unit {0}
LocksAreUsedWell held (event ∷ events) =
    IsGoodUse held (lock_use_of event) × LocksAreUsedWell (held_after_use held (lock_use_of event)) events

-- whether a lock is used as a shared one
abbrev pub uses_shared : Option LockUse → Bool
uses_shared (Some (Take Shared lock)) = true
uses_shared (Some (GiveBack Shared lock)) = true
uses_shared _ = false

-- whether one of the events takes or gives back a shared lock
abbrev pub has_shared_event : List Event → Bool
has_shared_event events = list_any (λ event. uses_shared (lock_use_of event)) events

-- events with a shared lock among them belong to format 2
abbrev pub AreOfFormat : ℕ → List Event → Type 0
AreOfFormat format events = has_shared_event events ≡ true → format ≡ 2
