-- The entries of a report, and how many of them have each kind of answer.
use Rattle.std.specs.Prelude.{ℕ, Bool, true, false, List, [], flat_map, count_by}
use Rattle.std.specs.List.{list_any}
use Rattle.gp_report.specs.declared.record.AnswerOf.{AnswerOf}
use Rattle.gp_report.specs.declared.record.AnswerOf.TheVariants.{Found, Impossible, Undecided}
use Rattle.gp_report.specs.declared.record.EntryOf.{EntryOf}
use Rattle.gp_report.specs.declared.record.PropertyBodyOf.{PropertyBodyOf}
use Rattle.gp_report.specs.declared.record.PropertyBodyOf.TheVariants.{TooMany, Entries}
use Rattle.gp_report.specs.declared.record.PropertyRecordOf.{PropertyRecordOf}
use Rattle.gp_report.specs.declared.record.WindowBodyOf.{WindowBodyOf}
use Rattle.gp_report.specs.declared.record.WindowBodyOf.TheVariants.{TooLarge, Answers}
use Rattle.gp_report.specs.declared.record.WindowRecordOf.{WindowRecordOf}

-- the entries of a property
abbrev pub entries_in : {Shown : Type 0} → PropertyBodyOf Shown → List (EntryOf Shown)
entries_in TooMany = []
entries_in (Entries entries) = entries

-- the properties of a window
abbrev pub properties_in : {Shown : Type 0} → WindowBodyOf Shown → List (PropertyRecordOf Shown)
properties_in (TooLarge events clauses) = []
properties_in (Answers properties) = properties

-- the entries of these properties, in order
abbrev pub entries_among : {Shown : Type 0} → List (PropertyRecordOf Shown) → List (EntryOf Shown)
entries_among {Shown} properties = flat_map (λ (property : PropertyRecordOf Shown). entries_in property.body) properties

-- all entries of these windows, in order
abbrev pub entries_of : {Shown : Type 0} → List (WindowRecordOf Shown) → List (EntryOf Shown)
entries_of {Shown} windows = flat_map (λ (window : WindowRecordOf Shown). entries_among (properties_in window.body)) windows

-- whether an answer is what shows it
abbrev pub is_found : {Shown : Type 0} → AnswerOf Shown → Bool
is_found (Found shown) = true
is_found _ = false

-- whether an answer is a certificate
abbrev pub is_impossible : {Shown : Type 0} → AnswerOf Shown → Bool
is_impossible (Impossible certificate) = true
is_impossible _ = false

-- whether an answer is a spent budget
abbrev pub is_undecided : {Shown : Type 0} → AnswerOf Shown → Bool
is_undecided (Undecided worker from to) = true
is_undecided _ = false

-- how many entries have such an answer
abbrev pub count_of : {Shown : Type 0} → (AnswerOf Shown → Bool) → List (EntryOf Shown) → ℕ
count_of {Shown} is_such entries = count_by (λ (entry : EntryOf Shown). is_such entry.answer) entries

-- whether some entry is found
abbrev pub any_found : {Shown : Type 0} → List (EntryOf Shown) → Bool
any_found {Shown} entries = list_any (λ (entry : EntryOf Shown). is_found entry.answer) entries
