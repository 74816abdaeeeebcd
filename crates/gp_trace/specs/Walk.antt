-- How the lines of a trace are read, one after another.
use Rattle.std.specs.Prelude.{◌≡◌, ℕ, ◌+◌, ◌-◌, ◌^◌, ◌<◌, ◌==◌, if◌then◌else◌, List, [], ◌∷◌, ◌++◌, length, is_some, Option, Some, None, Result, Ok, Err}
use Rattle.gp_text.specs.declared.line.Line.{Line}
use Rattle.gp_text.specs.declared.lines.TextFault.{TextFault}
use Rattle.gp_text.specs.Lines.{end_line_of, lines_of}
use Rattle.gp_base.specs.Results.{and_then}
use Rattle.gp_trace.specs.declared.event.Event.{Event}
use Rattle.gp_trace.specs.declared.fault.TraceFault.{TraceFault}
use Rattle.gp_trace.specs.declared.fault.TraceFault.TheVariants.{Text, AfterExit, BadWord, MarkCount}
use Rattle.gp_trace.specs.declared.line.Entry.{Entry}
use Rattle.gp_trace.specs.declared.line.Entry.TheVariants.{Did, Mark, Exit}
use Rattle.gp_trace.specs.declared.walk.Walk.{Walk}
use Rattle.gp_trace.specs.Event.{entry_of}
use Rattle.gp_trace.specs.Rules.{after, at_first, check}
use Rattle.gp_trace.specs.Trace.{in_order, IsLocalTrace, LocalTraceForm}
use Rattle.gp_trace.specs.LockUse.{AreOfFormat}

-- before the first line: no segment has ended, and the first is empty
abbrev pub at_start : Walk
at_start = record { standing = at_first; ended = []; segment = []; exit_in = None }

-- the event joins the segment, where it breaks no rule
abbrev pub with_event : Walk → Event → Result (Unit {0}) TraceFault → Result Walk TraceFault
with_event walk event (Ok u) = Ok (record walk { standing = after walk.standing event; segment = walk.segment ++ event ∷ [] })
with_event walk event (Err fault) = Err fault

-- a mark in line n ends the segment, where fewer marks came before than there are
abbrev pub at_mark : ℕ → ℕ → Walk → Result Walk TraceFault
at_mark marks n walk =
    if length walk.ended == marks then Err (MarkCount n)
    else Ok (record walk { ended = walk.ended ++ walk.segment ∷ []; segment = [] })

-- the thread ends in this segment
abbrev pub at_exit : Walk → Walk
at_exit walk = record walk { exit_in = Some (length walk.ended + 1) }

-- line n of a thread that has not ended
abbrev pub before_exit : ℕ → ℕ → ℕ → Walk → Option Entry → Result Walk TraceFault
before_exit thread marks n walk None = Err (BadWord n)
before_exit thread marks n walk (Some (Did event)) = with_event walk event (check thread n walk.standing event)
before_exit thread marks n walk (Some Mark) = at_mark marks n walk
before_exit thread marks n walk (Some Exit) = Ok (at_exit walk)

-- line n of a thread that has ended
abbrev pub after_exit : ℕ → ℕ → Walk → Option Entry → Result Walk TraceFault
after_exit marks n walk None = Err (AfterExit n)
after_exit marks n walk (Some (Did event)) = Err (AfterExit n)
after_exit marks n walk (Some Mark) = at_mark marks n walk
after_exit marks n walk (Some Exit) = Err (AfterExit n)

-- one line further
abbrev pub next : ℕ → ℕ → ℕ → Walk → Line → Result Walk TraceFault
next format thread marks walk line =
    if is_some walk.exit_in then after_exit marks line.number walk (entry_of format line.words)
    else before_exit thread marks line.number walk (entry_of format line.words)

-- the lines one after another, up to the first that breaks a rule
abbrev pub after_lines : ℕ → ℕ → ℕ → Walk → List Line → Result Walk TraceFault
after_lines format thread marks walk [] = Ok walk
after_lines format thread marks walk (line ∷ lines) = and_then (next format thread marks walk line) (λ mid. after_lines format thread marks mid lines)

-- the trace at the end of the text, in line n, where all marks came
abbrev pub at_end : ℕ → ℕ → ℕ → Result Walk TraceFault → Result LocalTraceForm TraceFault
at_end thread marks n (Ok walk) =
    if length walk.ended == marks then Ok (record { thread = thread; segments = walk.ended ++ walk.segment ∷ []; exit_in = walk.exit_in })
    else Err (MarkCount n)
at_end thread marks n (Err fault) = Err fault

-- the trace in the lines of a text that ends at line n
abbrev pub trace_in : ℕ → ℕ → ℕ → ℕ → Result (List Line) TextFault → Result LocalTraceForm TraceFault
trace_in format thread marks n (Ok lines) = at_end thread marks n (after_lines format thread marks at_start lines)
trace_in format thread marks n (Err fault) = Err (Text fault)

-- the trace of this thread, with so many marks, that a text spells in a format, or its first fault
abbrev pub trace_of : ℕ → ℕ → ℕ → List ℕ → Result LocalTraceForm TraceFault
trace_of format thread marks bytes = trace_in format thread marks (end_line_of bytes) (lines_of bytes)

-- a trace of the thread of this number, with a segment more than there are marks, in this format
pub record IsTraceOf (format thread marks : ℕ) (trace : LocalTraceForm) : Type 0 where
  pub formed : IsLocalTrace trace
  pub numbered : trace.thread ≡ thread
  pub whole : length trace.segments ≡ marks + 1
  pub belongs : AreOfFormat format (in_order trace.segments)

-- what a text spells is a trace of the thread, with these marks
abbrev pub TracesFit : Type 0
TracesFit = (format thread marks : ℕ) (bytes : List ℕ) (trace : LocalTraceForm) → length bytes < 2 ^ 32 - 1 → trace_of format thread marks bytes ≡ Ok trace → IsTraceOf format thread marks trace
