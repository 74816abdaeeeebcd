-- The trace of one thread, and which traces there are.
use Rattle.std.specs.Prelude.{◌≡◌, ℕ, ◌^◌, ◌<◌, ◌≤◌, true, List, [], ◌∷◌, ◌++◌, length, drop, Option, Some, None, FitsSigned}
use Rattle.std.specs.Int.{w64}
use Rattle.std.specs.List.{AllByRecursion}
use Rattle.gp_text.specs.Name.{is_name}
use Rattle.gp_trace.specs.declared.event.Event.{Event}
use Rattle.gp_trace.specs.declared.event.Event.TheVariants.{Read, Write, Acquire, Release, RAcquire, RRelease, Start, Join, Op, Begin, End}
use Rattle.gp_trace.specs.Rules.{at_first, AreWellFormed}

-- a thread's number, its events in segments, and the segment, from 1, in which it ended
pub record LocalTraceForm : Type 0 where
  pub thread : ℕ
  pub segments : List (List Event)
  pub exit_in : Option ℕ

-- the events of the segments in one list
abbrev pub in_order : List (List Event) → List Event
in_order [] = []
in_order (segment ∷ segments) = segment ++ in_order segments

-- names are names, numbers have their width, and an operation has at most four objects
abbrev pub IsEvent : Event → Type 0
IsEvent (Read name value) = (is_name name ≡ true) × FitsSigned w64 value
IsEvent (Write name value) = (is_name name ≡ true) × FitsSigned w64 value
IsEvent (Acquire lock) = is_name lock ≡ true
IsEvent (Release lock) = is_name lock ≡ true
IsEvent (RAcquire lock) = is_name lock ≡ true
IsEvent (RRelease lock) = is_name lock ≡ true
IsEvent (Start other) = other < 2 ^ 32
IsEvent (Join other) = other < 2 ^ 32
IsEvent (Op (name, objects)) = (is_name name ≡ true) × AllByRecursion (λ object. is_name object ≡ true) objects × (length objects ≤ 4)
IsEvent (Begin region) = is_name region ≡ true
IsEvent (End region) = is_name region ≡ true

-- the segment of the exit is one of them, and every later one is empty
abbrev pub IsExit : Option ℕ → List (List Event) → Type 0
IsExit None segments = Unit {0}
IsExit (Some number) segments =
    (1 ≤ number) × (number ≤ length segments) × AllByRecursion (λ segment. segment ≡ []) (drop number segments)

-- what is true of every trace
pub record IsLocalTrace (trace : LocalTraceForm) : Type 0 where
  pub some : 1 ≤ length trace.segments
  pub few : length (in_order trace.segments) < 2 ^ 32
  pub events : AllByRecursion IsEvent (in_order trace.segments)
  pub formed : AreWellFormed trace.thread at_first (in_order trace.segments)
  pub exits : IsExit trace.exit_in trace.segments
