-- Which lines are a schedule: the window, and then its events in the order in which they are to happen.
use Rattle.std.specs.Prelude.{ℕ, List, [], ◌∷◌, Option, Some, None, Result, Ok, Err, codes}
use Rattle.gp_text.specs.declared.line.Line.{Line}
use Rattle.gp_text.specs.declared.lines.TextFault.{TextFault}
use Rattle.gp_text.specs.Lines.{end_line_of, lines_of}
use Rattle.gp_window.specs.EventIds.{event_id_of}
use Rattle.gp_window.specs.declared.schedule.EventId.{EventId}
use Rattle.gp_replay.specs.declared.schedule.WindowSchedule.{WindowSchedule}
use Rattle.gp_replay.specs.declared.schedule.ScheduleFault.{ScheduleFault}
use Rattle.gp_replay.specs.declared.schedule.ScheduleFault.TheVariants.{BadLine}
use Rattle.gp_replay.specs.Faults.{schedule_from_text}
use Rattle.gp_text.specs.Numbers.{between, number_after}
use Rattle.gp_base.specs.Results.{then_rest, or_refusal, with_prefix}

-- the events that the words of the line of this number name, or that the line is bad
abbrev pub event_ids_of : ℕ → List (List ℕ) → Result (List EventId) ScheduleFault
event_ids_of number [] = Ok []
event_ids_of number (word ∷ words) = then_rest (or_refusal (BadLine number) (event_id_of word)) (event_ids_of number words)

-- the events of a line before those of the lines after it
abbrev pub joined : Result (List EventId) ScheduleFault → Result (List EventId) ScheduleFault → Result (List EventId) ScheduleFault
joined (Ok events) rest = with_prefix events rest
joined (Err fault) rest = Err fault

-- the events that the lines name, in order, or the first bad line
abbrev pub events_of : List Line → Result (List EventId) ScheduleFault
events_of [] = Ok []
events_of (line ∷ lines) = joined (event_ids_of line.number line.words) (events_of lines)

-- a schedule of these events for this window
abbrev pub schedule_with : ℕ → Result (List EventId) ScheduleFault → Result WindowSchedule ScheduleFault
schedule_with window (Ok events) = Ok (record { window = window; schedule = record { events = events } })
schedule_with window (Err fault) = Err fault

-- the schedule of these lines for the window that the line before them names, if it names one
abbrev pub schedule_after : ℕ → Option ℕ → List Line → Result WindowSchedule ScheduleFault
schedule_after number (Some window) lines = schedule_with window (events_of lines)
schedule_after number None lines = Err (BadLine number)

-- the schedule that lines spell for a recording of so many epochs, in a text that ends at this line: `window K`, then lines of events
abbrev pub schedule_of : ℕ → ℕ → List Line → Result WindowSchedule ScheduleFault
schedule_of epochs end [] = Err (BadLine end)
schedule_of epochs end (line ∷ lines) = schedule_after line.number (between 1 epochs (number_after (codes "window") line.words)) lines

-- the schedule of a text that ends at this line, where it has lines
abbrev pub schedule_in : ℕ → ℕ → Result (List Line) TextFault → Result WindowSchedule ScheduleFault
schedule_in epochs end (Ok lines) = schedule_of epochs end lines
schedule_in epochs end (Err fault) = Err (schedule_from_text fault)

-- the schedule that a text spells
abbrev pub schedule_of_text : ℕ → List ℕ → Result WindowSchedule ScheduleFault
schedule_of_text epochs bytes = schedule_in epochs (end_line_of bytes) (lines_of bytes)
