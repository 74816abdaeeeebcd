-- The starts and joins of a recording in plain words: with which of them something is wrong, and which fault is told.
use Rattle.std.specs.Prelude.{ℕ, ◌≡◌, ◌↔◌, ◌⊎◌, ◌≤◌, ◌++◌, true, List, [], ◌∷◌, Contains, Err, is_ok}
use Rattle.std.specs.List.{flat_map}
use Rattle.gp_trace.specs.declared.event.Event.{Event}
use Rattle.gp_trace.specs.declared.event.Event.TheVariants.{Start, Join}
use Rattle.gp_trace.specs.Trace.{in_order, LocalTraceForm}
use Rattle.gp_window.specs.declared.fault.RecordingFault.{RecordingFault}
use Rattle.gp_window.specs.declared.fault.RecordingFault.TheVariants.{UnknownThread, StartsRoot, TwoStarts}
use Rattle.gp_window.specs.Starts.{after_traces}

-- the events of the traces, by thread and in the order of each
abbrev pub events_of : List LocalTraceForm → List Event
events_of traces = flat_map (λ trace. in_order trace.segments) traces

-- an event starts or joins this thread
abbrev pub NamesThread : Event → ℕ → Type 0
NamesThread event thread = (event ≡ Start thread) ⊎ (event ≡ Join thread)

-- a number is that of one of so many threads
abbrev pub IsThread : ℕ → ℕ → Type 0
IsThread threads thread = (1 ≤ thread) × (thread ≤ threads)

-- what is wrong with an event that comes after these, of so many threads and with these roots: it starts or joins a thread
-- that is not there; or it starts a root; or it starts a thread, no root, that one of those before it starts
abbrev pub IsWrong : ℕ → List ℕ → List Event → Event → RecordingFault → Type 0
IsWrong threads roots before event (UnknownThread thread) = NamesThread event thread × (IsThread threads thread → ⊥)
IsWrong threads roots before event (StartsRoot thread) = (event ≡ Start thread) × IsThread threads thread × Contains roots thread
IsWrong threads roots before event (TwoStarts thread) =
    (event ≡ Start thread) × IsThread threads thread × (Contains roots thread → ⊥) × Contains before (Start thread)
IsWrong threads roots before event fault = ⊥

-- nothing is wrong with any of the later events, each of which comes after those before it
abbrev pub NoneIsWrong : ℕ → List ℕ → List Event → List Event → Type 0
NoneIsWrong threads roots before [] = Unit {0}
NoneIsWrong threads roots before (event ∷ later) =
    ((fault : RecordingFault) → IsWrong threads roots before event fault → ⊥) × NoneIsWrong threads roots (before ++ event ∷ []) later

-- this is wrong with the first of the later events with which something is
abbrev pub IsFirstWrong : ℕ → List ℕ → List Event → List Event → RecordingFault → Type 0
IsFirstWrong threads roots before later fault =
    (front : List Event) × (event : Event) × (back : List Event) × (later ≡ front ++ event ∷ back)
    × NoneIsWrong threads roots before front × IsWrong threads roots (before ++ front) event fault

-- the checks of starts and joins tell a fault exactly where it is what is wrong with the first event with which something is
-- wrong, and none exactly where nothing is wrong with any
pub record StartsMean : Type 0 where
  pub first : (threads : ℕ) (roots : List ℕ) (traces : List LocalTraceForm) (fault : RecordingFault)
      → (after_traces threads roots [] traces ≡ Err fault) ↔ IsFirstWrong threads roots [] (events_of traces) fault
  pub none : (threads : ℕ) (roots : List ℕ) (traces : List LocalTraceForm)
      → (is_ok (after_traces threads roots [] traces) ≡ true) ↔ NoneIsWrong threads roots [] (events_of traces)
