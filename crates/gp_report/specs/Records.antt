-- What a report records, where a schedule shows that an instance is possible.
use Rattle.gp_report.specs.declared.record.AnswerOf.{AnswerOf}
use Rattle.gp_report.specs.declared.record.EntryOf.{EntryOf}
use Rattle.gp_report.specs.declared.record.PropertyBodyOf.{PropertyBodyOf}
use Rattle.gp_report.specs.declared.record.PropertyRecordOf.{PropertyRecordOf}
use Rattle.gp_report.specs.declared.record.WindowBodyOf.{WindowBodyOf}
use Rattle.gp_report.specs.declared.record.WindowRecordOf.{WindowRecordOf}
use Rattle.gp_window.specs.declared.schedule.Schedule.{Schedule}

-- the answer to an instance
abbrev pub Answer : Type 0
Answer = AnswerOf Schedule

-- an instance and its answer
abbrev pub Entry : Type 0
Entry = EntryOf Schedule

-- what is told of a property in a window
abbrev pub PropertyBody : Type 0
PropertyBody = PropertyBodyOf Schedule

-- the same under its name
abbrev pub PropertyRecord : Type 0
PropertyRecord = PropertyRecordOf Schedule

-- what is told of a window
abbrev pub WindowBody : Type 0
WindowBody = WindowBodyOf Schedule

-- the same under its number, with the steps that its certificates share and what each of its workers did
abbrev pub WindowRecord : Type 0
WindowRecord = WindowRecordOf Schedule
