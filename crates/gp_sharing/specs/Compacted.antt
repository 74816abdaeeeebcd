-- What is told of a window, where the steps of its certificates that rest on its constraints alone stand once, in its shared list.
use Rattle.std.specs.Prelude.{ℕ, ◌+◌, ◌^◌, Bool, List, [], if◌then◌else◌, fold, length, map, nat_lt, sum_by}
use Rattle.gp_certificate.specs.declared.step.Step.{Step}
use Rattle.gp_clause.specs.declared.problem.Problem.{Problem}
use Rattle.gp_report.specs.declared.record.AnswerOf.{AnswerOf}
use Rattle.gp_report.specs.declared.record.AnswerOf.TheVariants.{Impossible}
use Rattle.gp_report.specs.declared.record.EntryOf.{EntryOf}
use Rattle.gp_report.specs.declared.record.PropertyBodyOf.{PropertyBodyOf}
use Rattle.gp_report.specs.declared.record.PropertyBodyOf.TheVariants.{TooMany, Entries}
use Rattle.gp_report.specs.declared.record.PropertyRecordOf.{PropertyRecordOf}
use Rattle.gp_report.specs.declared.record.WindowBodyOf.{WindowBodyOf}
use Rattle.gp_report.specs.declared.record.WindowBodyOf.TheVariants.{TooLarge, Answers}
use Rattle.gp_report.specs.declared.record.WindowRecordOf.{WindowRecordOf}
use Rattle.gp_report.specs.Entries.{entries_among, properties_in}
use Rattle.gp_sharing.specs.declared.sizes.Sizes.{Sizes}
use Rattle.gp_sharing.specs.Moving.{compacted_steps, first_own, with_certificate}

-- by what the steps of certificates are numbered, with these constraints and these shared steps
abbrev pub sizes_in : Problem → List Step → Sizes
sizes_in problem shared = record {
  clauses = length problem.clauses;
  variables = length problem.kinds;
  shared = length shared;
}

-- the steps of an answer's certificate
abbrev pub own_steps : {Shown : Type 0} → AnswerOf Shown → List Step
own_steps (Impossible certificate) = certificate.steps
own_steps _ = []

-- the entries that a window is told with
abbrev pub entries_in_body : {Shown : Type 0} → WindowBodyOf Shown → List (EntryOf Shown)
entries_in_body body = entries_among (properties_in body)

-- a shared list with those steps of the certificates of some entries that move
abbrev pub with_entries : {Shown : Type 0} → Sizes → List Step → List (EntryOf Shown) → List Step
with_entries {Shown} sizes shared entries = fold (λ list (entry : EntryOf Shown). with_certificate sizes list (own_steps entry.answer)) shared entries

-- how many steps the certificates of some entries have
abbrev pub steps_in : {Shown : Type 0} → List (EntryOf Shown) → ℕ
steps_in {Shown} entries = sum_by (λ (entry : EntryOf Shown). length (own_steps entry.answer)) entries

-- an answer with the steps of its certificate made into others
abbrev pub answer_by : {Shown : Type 0} → (List Step → List Step) → AnswerOf Shown → AnswerOf Shown
answer_by f (Impossible certificate) = Impossible (record { steps = f certificate.steps })
answer_by f answer = answer

-- an entry with such an answer
abbrev pub entry_by : {Shown : Type 0} → (List Step → List Step) → EntryOf Shown → EntryOf Shown
entry_by f entry = record { events = entry.events; answer = answer_by f entry.answer }

-- what is told of a property, with such answers
abbrev pub entries_by : {Shown : Type 0} → (List Step → List Step) → PropertyBodyOf Shown → PropertyBodyOf Shown
entries_by f TooMany = TooMany
entries_by f (Entries entries) = Entries (map (entry_by f) entries)

-- the same under its name
abbrev pub property_by : {Shown : Type 0} → (List Step → List Step) → PropertyRecordOf Shown → PropertyRecordOf Shown
property_by f property = record { name = property.name; body = entries_by f property.body }

-- what is told of a window, with such answers
abbrev pub body_by : {Shown : Type 0} → (List Step → List Step) → WindowBodyOf Shown → WindowBodyOf Shown
body_by f (TooLarge events clauses) = TooLarge events clauses
body_by f (Answers properties) = Answers (map (property_by f) properties)

-- whether base clauses, shared steps and all steps of certificates are together fewer than 2^31
abbrev pub are_few : {Shown : Type 0} → Sizes → WindowBodyOf Shown → Bool
are_few sizes body = nat_lt (first_own sizes + steps_in (entries_in_body body)) (2 ^ 31)

-- a window with this new shared list, over which its answers are told
abbrev pub over_list : {Shown : Type 0} → Sizes → List Step → WindowRecordOf Shown → WindowRecordOf Shown
over_list sizes shared told = record {
  number = told.number;
  shared = shared;
  body = body_by (compacted_steps sizes shared) told.body;
  records = told.records;
}

-- a window with these sizes: its steps move where all are few
abbrev pub compacted_by : {Shown : Type 0} → Sizes → WindowRecordOf Shown → WindowRecordOf Shown
compacted_by sizes told = if are_few sizes told.body then over_list sizes (with_entries sizes told.shared (entries_in_body told.body)) told else told
