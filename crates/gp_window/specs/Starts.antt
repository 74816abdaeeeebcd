-- The walk over the starts and joins of a recording: which threads were started so far.
use Rattle.std.specs.Prelude.{ℕ, Bool, ◌==◌, ◌&&◌, ◌++◌, List, [], ◌∷◌, Result, Ok, Err, if◌then◌else◌, nat_le}
use Rattle.std.specs.List.{list_any}
use Rattle.gp_trace.specs.declared.event.Event.{Event}
use Rattle.gp_trace.specs.declared.event.Event.TheVariants.{Start, Join}
use Rattle.gp_trace.specs.Trace.{LocalTraceForm}
use Rattle.gp_window.specs.declared.fault.RecordingFault.{RecordingFault}
use Rattle.gp_window.specs.declared.fault.RecordingFault.TheVariants.{UnknownThread, StartsRoot, TwoStarts}
use Rattle.gp_base.specs.Results.{and_then}

-- whether a thread is one of these
abbrev pub is_among : List ℕ → ℕ → Bool
is_among threads thread = list_any (λ other. other == thread) threads

-- whether a number is that of a thread
abbrev pub is_thread : ℕ → ℕ → Bool
is_thread threads thread = nat_le 1 thread && nat_le thread threads

-- the started threads after a start: of a thread that is there, no root, and not started before
abbrev pub after_start : ℕ → List ℕ → List ℕ → ℕ → Result (List ℕ) RecordingFault
after_start threads roots started thread =
    if is_thread threads thread
    then (if is_among roots thread then Err (StartsRoot thread)
    else (if is_among started thread then Err (TwoStarts thread)
    else Ok (started ++ thread ∷ [])))
    else Err (UnknownThread thread)

-- the started threads after a join: of a thread that is there
abbrev pub after_join : ℕ → List ℕ → ℕ → Result (List ℕ) RecordingFault
after_join threads started thread = if is_thread threads thread then Ok started else Err (UnknownThread thread)

-- the started threads after an event
abbrev pub after_event : ℕ → List ℕ → List ℕ → Event → Result (List ℕ) RecordingFault
after_event threads roots started (Start thread) = after_start threads roots started thread
after_event threads roots started (Join thread) = after_join threads started thread
after_event threads roots started _ = Ok started

-- the started threads after the events of a segment
abbrev pub after_events : ℕ → List ℕ → List ℕ → List Event → Result (List ℕ) RecordingFault
after_events threads roots started [] = Ok started
after_events threads roots started (event ∷ events) =
    and_then (after_event threads roots started event) (λ more. after_events threads roots more events)

-- the started threads after the segments of a trace
abbrev pub after_segments : ℕ → List ℕ → List ℕ → List (List Event) → Result (List ℕ) RecordingFault
after_segments threads roots started [] = Ok started
after_segments threads roots started (segment ∷ segments) =
    and_then (after_events threads roots started segment) (λ more. after_segments threads roots more segments)

-- the started threads after the traces, or the first fault of a walk by thread and by event
abbrev pub after_traces : ℕ → List ℕ → List ℕ → List LocalTraceForm → Result (List ℕ) RecordingFault
after_traces threads roots started [] = Ok started
after_traces threads roots started (trace ∷ traces) =
    and_then (after_segments threads roots started trace.segments) (λ more. after_traces threads roots more traces)
