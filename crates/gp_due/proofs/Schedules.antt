-- A text is no schedule by a fault of its lines or of the text.
use Rattle.std.proofs.Common.{ℕ, List, [], ◌∷◌, Option, Some, None, Result, Ok, Err, codes}
use Rattle.gp_text.specs.declared.line.Line.{Line}
use Rattle.gp_text.specs.declared.lines.TextFault.{TextFault}
use Rattle.gp_text.specs.declared.lines.TextFault.TheVariants.{NotAscii, LongLine, NoLastNewline, Memory}
use Rattle.gp_text.specs.Lines.{end_line_of, lines_of}
use Rattle.gp_text.specs.Numbers.{between, number_after}
use Rattle.gp_window.specs.EventIds.{event_id_of}
use Rattle.gp_window.specs.declared.schedule.EventId.{EventId}
use Rattle.gp_replay.specs.declared.schedule.ScheduleFault.{ScheduleFault}
use Rattle.gp_replay.specs.declared.schedule.ScheduleFault.TheVariants.{BadLine}
use Rattle.gp_replay.specs.Faults.{schedule_from_text}
use Rattle.gp_replay.specs.Schedule.{event_ids_of, events_of, joined, schedule_after, schedule_in, schedule_of, schedule_with}
use Rattle.gp_due.specs.Readers.{SchedulesWantNoMemory}
use Rattle.gp_due.specs.Saying.{OnlySays, ScheduleSays, TextSays}
use Rattle.gp_due.proofs.Lines.{lines_say}
use Rattle.gp_due.proofs.Results as of

words_say : (number : ℕ) (words : List (List ℕ)) → OnlySays ScheduleSays (event_ids_of number words)
words_say number [] = of.value
words_say number (word ∷ words) = of.before_rest (of.unless_there (BadLine number) (event_id_of word) tt) (words_say number words)

joined_says : (events rest : Result (List EventId) ScheduleFault) → OnlySays ScheduleSays events → OnlySays ScheduleSays rest → OnlySays ScheduleSays (joined events rest)
joined_says (Ok events) rest events_say rest_says = of.behind_prefix events rest_says
joined_says (Err fault) rest events_say rest_says = of.fault events_say.fault

events_say : (lines : List Line) → OnlySays ScheduleSays (events_of lines)
events_say [] = of.value
events_say (line ∷ lines) = joined_says (event_ids_of line.number line.words) (events_of lines) (words_say line.number line.words) (events_say lines)

with_says : (window : ℕ) (events : Result (List EventId) ScheduleFault) → OnlySays ScheduleSays events → OnlySays ScheduleSays (schedule_with window events)
with_says window (Ok events) says = of.value
with_says window (Err fault) says = of.fault says.fault

after_says : (number : ℕ) (window : Option ℕ) (lines : List Line) → OnlySays ScheduleSays (schedule_after number window lines)
after_says number (Some window) lines = with_says window (events_of lines) (events_say lines)
after_says number None lines = of.fault tt

schedule_says : (epochs end : ℕ) (lines : List Line) → OnlySays ScheduleSays (schedule_of epochs end lines)
schedule_says epochs end [] = of.fault tt
schedule_says epochs end (line ∷ lines) = after_says line.number (between 1 epochs (number_after (codes "window") line.words)) lines

text_says : (fault : TextFault) → TextSays fault → ScheduleSays (schedule_from_text fault)
text_says (NotAscii line) says = tt
text_says (LongLine line) says = tt
text_says (NoLastNewline line) says = tt
text_says Memory says = says

in_says : (epochs end : ℕ) (lines : Result (List Line) TextFault) → OnlySays TextSays lines → OnlySays ScheduleSays (schedule_in epochs end lines)
in_says epochs end (Ok lines) says = schedule_says epochs end lines
in_says epochs end (Err fault) says = of.fault (text_says fault says.fault)

pub schedules_say : SchedulesWantNoMemory
schedules_say epochs bytes = in_says epochs (end_line_of bytes) (lines_of bytes) (lines_say bytes)
