-- A text is no trace by a fault of its lines or of the text.
use Rattle.std.proofs.Common.{ℕ, ◌==◌, Bool, true, false, List, [], ◌∷◌, Option, Some, None, Result, Ok, Err, if◌then◌else◌, is_some, length}
use Rattle.gp_text.specs.declared.line.Line.{Line}
use Rattle.gp_text.specs.declared.lines.TextFault.{TextFault}
use Rattle.gp_text.specs.Lines.{end_line_of, lines_of}
use Rattle.gp_trace.specs.declared.event.Event.{Event}
use Rattle.gp_trace.specs.declared.event.Event.TheVariants.{Read, Write, Acquire, Release, RAcquire, RRelease, Start, Join, Op, Begin, End}
use Rattle.gp_trace.specs.declared.fault.TraceFault.{TraceFault}
use Rattle.gp_trace.specs.declared.fault.TraceFault.TheVariants.{AcquireHeld, NameSelf, RegionUnmatched, ReleaseUnheld}
use Rattle.gp_trace.specs.declared.line.Entry.{Entry}
use Rattle.gp_trace.specs.declared.line.Entry.TheVariants.{Did, Mark, Exit}
use Rattle.gp_trace.specs.declared.lock_use.LockUse.{LockUse}
use Rattle.gp_trace.specs.declared.lock_use.LockUse.TheVariants.{Take, GiveBack}
use Rattle.gp_trace.specs.declared.rules.Standing.{Standing}
use Rattle.gp_trace.specs.declared.walk.Walk.{Walk}
use Rattle.gp_trace.specs.Event.{entry_of}
use Rattle.gp_trace.specs.LockUse.{HeldLocks, lock_use_of, mode_held}
use Rattle.gp_trace.specs.Rules.{check, in_line, is_held_as, is_innermost, lock_fault}
use Rattle.gp_trace.specs.Walk.{after_exit, after_lines, at_end, at_mark, at_start, before_exit, next, trace_in, with_event}
use Rattle.gp_due.specs.Readers.{TracesWantNoMemory}
use Rattle.gp_due.specs.Saying.{OnlySays, TextSays, TraceSays}
use Rattle.gp_due.proofs.Lines.{lines_say}
use Rattle.gp_due.proofs.Results as of

told_if : (n : ℕ) (test : Bool) (fault : ℕ → TraceFault) → TraceSays (fault n) → OnlySays TraceSays (in_line n (if test then Some fault else None))
told_if n true fault says = of.fault says
told_if n false fault says = of.value

told_unless : (n : ℕ) (test : Bool) (fault : ℕ → TraceFault) → TraceSays (fault n) → OnlySays TraceSays (in_line n (if test then None else Some fault))
told_unless n true fault says = of.value
told_unless n false fault says = of.fault says

lock_says : (n : ℕ) (held : HeldLocks) (used : Option LockUse) → OnlySays TraceSays (in_line n (lock_fault held used))
lock_says n held None = of.value
lock_says n held (Some (Take mode lock)) = told_if n (is_some (mode_held held lock)) AcquireHeld tt
lock_says n held (Some (GiveBack mode lock)) = told_unless n (is_held_as mode (mode_held held lock)) ReleaseUnheld tt

check_says : (thread n : ℕ) (s : Standing) (event : Event) → OnlySays TraceSays (check thread n s event)
check_says thread n s (Read name value) = of.value
check_says thread n s (Write name value) = of.value
check_says thread n s (Acquire lock) = lock_says n s.held (lock_use_of (Acquire lock))
check_says thread n s (Release lock) = lock_says n s.held (lock_use_of (Release lock))
check_says thread n s (RAcquire lock) = lock_says n s.held (lock_use_of (RAcquire lock))
check_says thread n s (RRelease lock) = lock_says n s.held (lock_use_of (RRelease lock))
check_says thread n s (Start other) = told_if n (other == thread) NameSelf tt
check_says thread n s (Join other) = told_if n (other == thread) NameSelf tt
check_says thread n s (Op operation) = of.value
check_says thread n s (Begin region) = of.value
check_says thread n s (End region) = told_unless n (is_innermost s.begun region) RegionUnmatched tt

event_says : (walk : Walk) (event : Event) (checked : Result (Unit {0}) TraceFault) → OnlySays TraceSays checked → OnlySays TraceSays (with_event walk event checked)
event_says walk event (Ok u) says = of.value
event_says walk event (Err fault) says = of.fault says.fault

mark_says : (marks n : ℕ) (walk : Walk) → OnlySays TraceSays (at_mark marks n walk)
mark_says marks n walk = of.either (length walk.ended == marks) (of.fault tt) of.value

before_says : (thread marks n : ℕ) (walk : Walk) (entry : Option Entry) → OnlySays TraceSays (before_exit thread marks n walk entry)
before_says thread marks n walk None = of.fault tt
before_says thread marks n walk (Some (Did event)) = event_says walk event (check thread n walk.standing event) (check_says thread n walk.standing event)
before_says thread marks n walk (Some Mark) = mark_says marks n walk
before_says thread marks n walk (Some Exit) = of.value

after_says : (marks n : ℕ) (walk : Walk) (entry : Option Entry) → OnlySays TraceSays (after_exit marks n walk entry)
after_says marks n walk None = of.fault tt
after_says marks n walk (Some (Did event)) = of.fault tt
after_says marks n walk (Some Mark) = mark_says marks n walk
after_says marks n walk (Some Exit) = of.fault tt

next_says : (format thread marks : ℕ) (walk : Walk) (line : Line) → OnlySays TraceSays (next format thread marks walk line)
next_says format thread marks walk line =
    of.either (is_some walk.exit_in) (after_says marks line.number walk (entry_of format line.words)) (before_says thread marks line.number walk (entry_of format line.words))

walk_says : (format thread marks : ℕ) (walk : Walk) (lines : List Line) → OnlySays TraceSays (after_lines format thread marks walk lines)
walk_says format thread marks walk [] = of.value
walk_says format thread marks walk (line ∷ lines) = of.in_turn (next_says format thread marks walk line) (λ mid. walk_says format thread marks mid lines)

end_says : (thread marks n : ℕ) (walked : Result Walk TraceFault) → OnlySays TraceSays walked → OnlySays TraceSays (at_end thread marks n walked)
end_says thread marks n (Ok walk) says = of.either (length walk.ended == marks) of.value (of.fault tt)
end_says thread marks n (Err fault) says = of.fault says.fault

trace_says : (format thread marks n : ℕ) (lines : Result (List Line) TextFault) → OnlySays TextSays lines → OnlySays TraceSays (trace_in format thread marks n lines)
trace_says format thread marks n (Ok lines) says = end_says thread marks n (after_lines format thread marks at_start lines) (walk_says format thread marks at_start lines)
trace_says format thread marks n (Err fault) says = of.fault says.fault

pub traces_say : TracesWantNoMemory
traces_say format thread marks bytes = trace_says format thread marks (end_line_of bytes) (lines_of bytes) (lines_say bytes)
