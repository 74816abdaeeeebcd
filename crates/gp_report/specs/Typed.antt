-- What the types of a report's parts say of its values: names are names, and numbers and lengths fit.
use Rattle.std.specs.Prelude.{◌≡◌, ◌<◌, ◌^◌, true, List, length, All}
use Rattle.gp_certificate.specs.declared.step.Step.{Step}
use Rattle.gp_text.specs.Name.{is_name}
use Rattle.gp_window.specs.declared.schedule.EventId.{EventId}
use Rattle.gp_report.specs.Records.{Answer, Entry, PropertyRecord, WindowBody, WindowRecord}
use Rattle.gp_report.specs.declared.record.AnswerOf.TheVariants.{Found, Impossible, Undecided}
use Rattle.gp_report.specs.declared.record.EntryOf.{EntryOf}
use Rattle.gp_report.specs.declared.record.WindowBodyOf.TheVariants.{TooLarge, Answers}
use Rattle.gp_report.specs.Entries.{count_of, entries_in, entries_of, is_found, is_impossible, is_undecided}
use Rattle.gp_report.specs.ReportForm.{ReportForm}

-- an id of two numbers below 2^32
pub record IsTypedId (id : EventId) : Type 0 where
  pub thread : id.thread < 2 ^ 32
  pub index : id.index < 2 ^ 32

-- a step whose hints are below 2^32, in rows that fit
pub record IsTypedStep (step : Step) : Type 0 where
  pub lits_fit : length step.clause < 2 ^ 64
  pub hints_fit : length step.hints < 2 ^ 64
  pub hints : All (λ hint. hint < 2 ^ 32) step.hints

-- such steps, in a row that fits
abbrev pub AreTypedSteps : List Step → Type 0
AreTypedSteps steps = (length steps < 2 ^ 64) × All IsTypedStep steps

-- an answer of such parts
abbrev pub IsTypedAnswer : Answer → Type 0
IsTypedAnswer (Found schedule) = (length schedule.events < 2 ^ 64) × All IsTypedId schedule.events
IsTypedAnswer (Impossible certificate) = AreTypedSteps certificate.steps
IsTypedAnswer (Undecided worker from to) = (from < 2 ^ 32) × (to < 2 ^ 32)

-- an entry of such parts
pub record IsTypedEntry (entry : Entry) : Type 0 where
  pub events : All IsTypedId entry.events
  pub answer : IsTypedAnswer entry.answer

-- a name, and entries of such parts
pub record IsTypedProperty (property : PropertyRecord) : Type 0 where
  pub name : is_name property.name ≡ true
  pub entries : All IsTypedEntry (entries_in property.body)

-- two numbers below 2^64, or properties of such parts
abbrev pub IsTypedBody : WindowBody → Type 0
IsTypedBody (TooLarge events clauses) = (events < 2 ^ 64) × (clauses < 2 ^ 64)
IsTypedBody (Answers properties) = All IsTypedProperty properties

-- a window of such parts
pub record IsTypedWindow (window : WindowRecord) : Type 0 where
  pub number : window.number < 2 ^ 32
  pub shared : AreTypedSteps window.shared
  pub body : IsTypedBody window.body

-- how many entries have each answer is below 2^64
pub record AreCounted {Shown : Type 0} (entries : List (EntryOf Shown)) : Type 0 where
  pub found : count_of is_found entries < 2 ^ 64
  pub impossible : count_of is_impossible entries < 2 ^ 64
  pub undecided : count_of is_undecided entries < 2 ^ 64

-- a report of such parts
pub record IsTyped (report : ReportForm) : Type 0 where
  pub windows : All IsTypedWindow report.windows
  pub counted : AreCounted (entries_of report.windows)
