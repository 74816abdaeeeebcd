-- Which threads hold which locks after the segments of a recording, and how.
use Rattle.std.specs.Prelude.{ℕ, zero, suc, Bool, true, false, not, List, [], ◌∷◌, Option, Some, None, filter, map, slice_get, unwrap_or}
use Rattle.std.specs.Cmp.Lexicographic.{slice_cmp}
use Rattle.std.specs.List.Sorted.{IsStrictlySortedBy}
use Rattle.std.specs.Map.{keys_of}
use Rattle.std.specs.Ordering.{nat_cmp, ordering_then}
use Rattle.std.specs.declared.cmp.Ordering.{Ordering}
use Rattle.gp_base.specs.Table.{with_entry, without_entry}
use Rattle.gp_trace.specs.declared.event.Event.{Event}
use Rattle.gp_trace.specs.declared.lock_use.LockMode.{LockMode}
use Rattle.gp_trace.specs.declared.lock_use.LockMode.TheVariants.{Exclusive, Shared}
use Rattle.gp_trace.specs.declared.lock_use.LockUse.{LockUse}
use Rattle.gp_trace.specs.declared.lock_use.LockUse.TheVariants.{Take, GiveBack}
use Rattle.gp_trace.specs.LockUse.{lock_use_of}
use Rattle.gp_trace.specs.Trace.{LocalTraceForm}

-- a lock, a thread that holds it, and how
abbrev pub Holding : Type 0
Holding = (List ℕ × ℕ) × LockMode

-- who holds which lock, in the order of the locks' names and then of the threads
abbrev pub Holdings : Type 0
Holdings = List Holding

-- a lock before another, and at one lock a thread before another
abbrev pub holder_cmp : List ℕ × ℕ → List ℕ × ℕ → Ordering
holder_cmp one other = ordering_then (slice_cmp nat_cmp one.0 other.0) (nat_cmp one.1 other.1)

-- the holdings stand in that order, each lock and thread once
abbrev pub AreOrdered : Holdings → Type 0
AreOrdered held = IsStrictlySortedBy holder_cmp (keys_of held)

-- who holds which lock after a thread's use of one
abbrev pub held_after : ℕ → Holdings → Option LockUse → Holdings
held_after thread held None = held
held_after thread held (Some (Take mode lock)) = with_entry holder_cmp held (lock, thread) mode
held_after thread held (Some (GiveBack mode lock)) = without_entry holder_cmp held (lock, thread)

-- who holds which lock after events of a thread
abbrev pub held_after_events : ℕ → Holdings → List Event → Holdings
held_after_events thread held [] = held
held_after_events thread held (event ∷ events) = held_after_events thread (held_after thread held (lock_use_of event)) events

-- the segment of a trace that has so many before it
abbrev pub segment_after : ℕ → LocalTraceForm → List Event
segment_after before trace = unwrap_or (slice_get trace.segments before) []

-- who holds which lock after that segment of each trace
abbrev pub held_after_window : ℕ → Holdings → List LocalTraceForm → Holdings
held_after_window before held [] = held
held_after_window before held (trace ∷ traces) =
    held_after_window before (held_after_events trace.thread held (segment_after before trace)) traces

-- who holds which lock after so many segments of each trace
abbrev pub held_over : List LocalTraceForm → ℕ → Holdings
held_over traces zero = []
held_over traces (suc before) = held_after_window before (held_over traces before) traces

-- whether a lock is held by an acquire
abbrev pub is_exclusive : LockMode → Bool
is_exclusive Exclusive = true
is_exclusive Shared = false

-- the locks that are held by an acquire, with their threads
abbrev pub holders_among : Holdings → List (List ℕ × ℕ)
holders_among held = map (λ one. one.0) (filter (λ one. is_exclusive one.1) held)

-- the locks that are held by a racquire, with their threads
abbrev pub readers_among : Holdings → List (List ℕ × ℕ)
readers_among held = map (λ one. one.0) (filter (λ one. not (is_exclusive one.1)) held)

-- locks and threads, with the way in which the threads hold them
abbrev pub held_as : LockMode → List (List ℕ × ℕ) → Holdings
held_as mode pairs = map (λ pair. (pair, mode)) pairs
