-- The walks over a recording refuse it by a thread or a lock.
use Rattle.std.proofs.Common.{ℕ, zero, suc, ◌+◌, ◌-◌, List, [], ◌∷◌, Option, Some, None, Result}
use Rattle.gp_trace.specs.declared.event.Event.{Event}
use Rattle.gp_trace.specs.declared.event.Event.TheVariants.{Read, Write, Acquire, Release, RAcquire, RRelease, Start, Join, Op, Begin, End}
use Rattle.gp_trace.specs.Trace.{LocalTraceForm}
use Rattle.gp_window.specs.declared.fault.RecordingFault.{RecordingFault}
use Rattle.gp_window.specs.Contested.{first_contested}
use Rattle.gp_window.specs.Holders.{held_over}
use Rattle.gp_window.specs.Marks.{after_marks, after_marks_from, unless_contested}
use Rattle.gp_window.specs.Starts.{after_event, after_events, after_join, after_segments, after_start, after_traces, is_among, is_thread}
use Rattle.gp_due.specs.Saying.{OnlySays, RecordingSays}
use Rattle.gp_due.proofs.Results as of

start_says : (threads : ℕ) (roots started : List ℕ) (thread : ℕ) → OnlySays RecordingSays (after_start threads roots started thread)
start_says threads roots started thread =
    of.either (is_thread threads thread) (of.either (is_among roots thread) (of.fault tt) (of.either (is_among started thread) (of.fault tt) of.value)) (of.fault tt)

join_says : (threads : ℕ) (started : List ℕ) (thread : ℕ) → OnlySays RecordingSays (after_join threads started thread)
join_says threads started thread = of.either (is_thread threads thread) of.value (of.fault tt)

event_says : (threads : ℕ) (roots started : List ℕ) (event : Event) → OnlySays RecordingSays (after_event threads roots started event)
event_says threads roots started (Start thread) = start_says threads roots started thread
event_says threads roots started (Join thread) = join_says threads started thread
event_says threads roots started (Read name value) = of.value
event_says threads roots started (Write name value) = of.value
event_says threads roots started (Acquire lock) = of.value
event_says threads roots started (Release lock) = of.value
event_says threads roots started (RAcquire lock) = of.value
event_says threads roots started (RRelease lock) = of.value
event_says threads roots started (Op operation) = of.value
event_says threads roots started (Begin region) = of.value
event_says threads roots started (End region) = of.value

events_say : (threads : ℕ) (roots started : List ℕ) (events : List Event) → OnlySays RecordingSays (after_events threads roots started events)
events_say threads roots started [] = of.value
events_say threads roots started (event ∷ events) = of.in_turn (event_says threads roots started event) (λ more. events_say threads roots more events)

segments_say : (threads : ℕ) (roots started : List ℕ) (segments : List (List Event)) → OnlySays RecordingSays (after_segments threads roots started segments)
segments_say threads roots started [] = of.value
segments_say threads roots started (segment ∷ segments) = of.in_turn (events_say threads roots started segment) (λ more. segments_say threads roots more segments)

pub starts_say : (threads : ℕ) (roots started : List ℕ) (traces : List LocalTraceForm) → OnlySays RecordingSays (after_traces threads roots started traces)
starts_say threads roots started [] = of.value
starts_say threads roots started (trace ∷ traces) = of.in_turn (segments_say threads roots started trace.segments) (λ more. starts_say threads roots more traces)

unless_says : (k : ℕ) (contested : Option (List ℕ)) (later : Result (Unit {0}) RecordingFault) → OnlySays RecordingSays later → OnlySays RecordingSays (unless_contested k contested later)
unless_says k (Some lock) later says = of.fault tt
unless_says k None later says = says

marks_say_from : (traces : List LocalTraceForm) (passed more : ℕ) → OnlySays RecordingSays (after_marks_from traces passed more)
marks_say_from traces passed zero = of.value
marks_say_from traces passed (suc more) =
    unless_says (passed + 2) (first_contested (held_over traces (passed + 1))) (after_marks_from traces (passed + 1) more) (marks_say_from traces (passed + 1) more)

pub marks_say : (epochs : ℕ) (traces : List LocalTraceForm) → OnlySays RecordingSays (after_marks epochs traces)
marks_say epochs traces = marks_say_from traces 0 (epochs - 1)
