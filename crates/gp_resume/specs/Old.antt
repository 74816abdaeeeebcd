-- What an old report tells of an instance: the answer of the first entry with its events, in the first record of a property
-- with its property's name, in the record of its window's number.
use Rattle.std.specs.Prelude.{ℕ, ◌==◌, List, [], Option, None, Some, find, nat_eq, option_map}
use Rattle.std.specs.Cmp.Lexicographic.{pointwise}
use Rattle.gp_certificate.specs.declared.step.Step.{Step}
use Rattle.gp_report.specs.Entries.{entries_in, properties_in}
use Rattle.gp_report.specs.Records.{Answer, Entry, PropertyRecord, WindowRecord}
use Rattle.gp_report.specs.ReportForm.{ReportForm}
use Rattle.gp_window.specs.declared.schedule.EventId.{EventId}
use Rattle.gp_window.specs.Ids.{is_same}

-- the old record of the window of a number
abbrev pub old_record : ReportForm → ℕ → Option WindowRecord
old_record old number = find (λ (told : WindowRecord). told.number == number) old.windows

-- the shared list of an old record, where it is there
abbrev pub shared_in : Option WindowRecord → List Step
shared_in None = []
shared_in (Some told) = told.shared

-- the records of properties in an old record
abbrev pub properties_told : Option WindowRecord → List PropertyRecord
properties_told None = []
properties_told (Some told) = properties_in told.body

-- the entries of a record of a property
abbrev pub entries_told : Option PropertyRecord → List Entry
entries_told None = []
entries_told (Some told) = entries_in told.body

-- the entries of the first record of a property with this name
abbrev pub entries_named : List ℕ → List PropertyRecord → List Entry
entries_named name records = entries_told (find (λ (told : PropertyRecord). pointwise nat_eq told.name name) records)

-- the answer of the first entry with these events
abbrev pub answer_in : List Entry → List EventId → Option Answer
answer_in entries ids = option_map (λ (entry : Entry). entry.answer) (find (λ (entry : Entry). pointwise is_same ids entry.events) entries)

-- the old answer to an instance of a property of this name
abbrev pub old_answer : Option WindowRecord → List ℕ → List EventId → Option Answer
old_answer told name ids = answer_in (entries_named name (properties_told told)) ids
