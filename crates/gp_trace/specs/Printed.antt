-- The canonical text of a trace: one space between words, and a newline after each line.
use Rattle.std.specs.Prelude.{◌≡◌, ℕ, ◌+◌, ◌-◌, Bool, false, ◌==◌, if◌then◌else◌, List, [], ◌∷◌, ◌++◌, length, map, codes, decimal, Option, Some, None, Ok}
use Rattle.std.specs.Fmt.{signed_decimal}
use Rattle.gp_text.specs.Spelling.{spelling}
use Rattle.gp_trace.specs.declared.event.Event.{Event}
use Rattle.gp_trace.specs.declared.event.Event.TheVariants.{Read, Write, Acquire, Release, RAcquire, RRelease, Start, Join, Op, Begin, End}
use Rattle.gp_trace.specs.Trace.{in_order, IsLocalTrace, LocalTraceForm}
use Rattle.gp_trace.specs.LockUse.{AreOfFormat}
use Rattle.gp_trace.specs.Walk.{trace_of}

-- the words of an event
abbrev pub event_words : Event → List (List ℕ)
event_words (Read name value) = codes "read" ∷ name ∷ signed_decimal value ∷ []
event_words (Write name value) = codes "write" ∷ name ∷ signed_decimal value ∷ []
event_words (Acquire lock) = codes "acquire" ∷ lock ∷ []
event_words (Release lock) = codes "release" ∷ lock ∷ []
event_words (RAcquire lock) = codes "racquire" ∷ lock ∷ []
event_words (RRelease lock) = codes "rrelease" ∷ lock ∷ []
event_words (Start thread) = codes "start" ∷ decimal thread ∷ []
event_words (Join thread) = codes "join" ∷ decimal thread ∷ []
event_words (Op (name, objects)) = codes "op" ∷ name ∷ objects
event_words (Begin region) = codes "begin" ∷ region ∷ []
event_words (End region) = codes "end" ∷ region ∷ []

-- a line for each event
abbrev pub event_lines : List Event → List (List (List ℕ))
event_lines events = map event_words events

-- whether the thread ends in the segment of this number
abbrev pub ends_in : Option ℕ → ℕ → Bool
ends_in (Some last) number = last == number
ends_in None number = false

-- the exit after the events of its segment
abbrev pub exit_lines : Option ℕ → ℕ → List (List (List ℕ))
exit_lines exit_in number = if ends_in exit_in number then (codes "exit" ∷ []) ∷ [] else []

-- the segments after the first, from this number on, each with a mark before it
abbrev pub later_lines : Option ℕ → ℕ → List (List Event) → List (List (List ℕ))
later_lines exit_in number [] = []
later_lines exit_in number (segment ∷ segments) =
    (codes "mark" ∷ []) ∷ (event_lines segment ++ (exit_lines exit_in number ++ later_lines exit_in (number + 1) segments))

-- the segments, with marks between them
abbrev pub segment_lines : Option ℕ → List (List Event) → List (List (List ℕ))
segment_lines exit_in [] = []
segment_lines exit_in (segment ∷ segments) =
    event_lines segment ++ (exit_lines exit_in 1 ++ later_lines exit_in 2 segments)

-- the text of a trace
abbrev pub trace_text : LocalTraceForm → List ℕ
trace_text trace = spelling (segment_lines trace.exit_in trace.segments)

-- the text of a trace is read as the trace in each format that its events belong to, with a mark fewer than there are segments
abbrev pub TraceReadsAgain : Type 0
TraceReadsAgain = (format : ℕ) (trace : LocalTraceForm) → IsLocalTrace trace → AreOfFormat format (in_order trace.segments) → trace_of format trace.thread (length trace.segments - 1) (trace_text trace) ≡ Ok trace
