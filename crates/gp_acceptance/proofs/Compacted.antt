-- The compact form of a report that is answered is answered: it is accepted, and but for steps it says what was said.
use Rattle.std.proofs.Common.{subst, ℕ, ◌+◌, Bool, true, false, List, [], ◌∷◌, Result, Ok, Err, map, if◌then◌else◌}
use Rattle.std.specs.List.{AllZip, enumerate_from}
use Rattle.gp_constraint.specs.declared.fault.BaseFault.{BaseFault}
use Rattle.gp_constraint.specs.Base.{base_of}
use Rattle.gp_constraint.specs.Encoded.{base_due}
use Rattle.gp_certificate.specs.declared.step.Step.{Step}
use Rattle.gp_certificate.specs.Shared.{SharedPasses}
use Rattle.gp_derivation.specs.declared.record.WorkerRecord.{WorkerRecord}
use Rattle.gp_instance.specs.declared.instance.Instance.{Instance}
use Rattle.gp_instance.specs.declared.instance.InstancesFault.{InstancesFault}
use Rattle.gp_instance.specs.declared.instance.InstancesFault.TheVariants.{Memory, TooMany}
use Rattle.gp_instance.specs.Instances.{due_instances}
use Rattle.gp_property.specs.PropertyForm.{PropertyForm}
use Rattle.gp_report.specs.Records.{Answer, Entry, PropertyBody, PropertyRecord, WindowBody, WindowRecord}
use Rattle.gp_report.specs.declared.record.AnswerOf.TheVariants.{Found, Impossible, Undecided}
use Rattle.gp_report.specs.declared.record.PropertyBodyOf.TheVariants as body
use Rattle.gp_report.specs.declared.record.WindowBodyOf.TheVariants as told
use Rattle.gp_window.specs.declared.schedule.EventId.{EventId}
use Rattle.gp_window.specs.WindowForm.{WindowForm}
use Rattle.gp_window.specs.Windows.{all_windows}
use Rattle.gp_checker.specs.Accepted.{AcceptsAnswer, AcceptsBody, AcceptsEntry, AcceptsListed, AcceptsProperty, AcceptsWindow}
use Rattle.gp_compact.specs.Compact.{CompactKeepsAcceptance, compacted, compacted_over, compacted_windows, sizes_of}
use Rattle.gp_sharing.specs.Compacted.{answer_by, are_few, body_by, entries_by, entries_in_body, entry_by, property_by, with_entries}
use Rattle.gp_sharing.specs.Moving.{compacted_steps}
use Rattle.gp_acceptance.specs.Acceptance.{CompactIsAnswered}
use Rattle.gp_acceptance.proofs.Acceptance.{answered_accepted}
use Rattle.gp_analysis.specs.Answered.{Evidence}
use Rattle.gp_patterns.specs.Answered.{AnswersBody, AnswersEach, AnswersListed, AnswersProperties, AnswersWindow, IsAnswer}

-- what is known of a window that has these shared steps
abbrev known_of : ℕ → List Step → List WorkerRecord → Evidence
known_of budget shared workers = record { budget = budget; shared = shared; workers = workers }

-- over a shared list that passes, answers with other steps that are accepted say what they said
module _ (window : WindowForm) (budget : ℕ) (workers : List WorkerRecord) (old new : List Step) (passes : SharedPasses (base_of window) new) (f : List Step → List Step) where
  answer_answered : (property : PropertyForm) (ticket : ℕ) (ids : List EventId) (answer : Answer) → IsAnswer window (known_of budget old workers) property ticket ids answer
      → AcceptsAnswer window budget new property ids (answer_by f answer) → IsAnswer window (known_of budget new workers) property ticket ids (answer_by f answer)
  answer_answered property ticket ids (Found schedule) is accepts = is
  answer_answered property ticket ids (Impossible certificate) is accepts = record {
    impossible = is.impossible;
    refutes = record { checks = record { shares = passes; own = accepts.0 }; ends = accepts.1 };
  }
  answer_answered property ticket ids (Undecided worker from to) is accepts = is

  entries_answered : (property : PropertyForm) (ticket : ℕ) (instances : List Instance) (entries : List Entry) → AnswersEach window (known_of budget old workers) property ticket instances entries
      → AllZip (AcceptsEntry window budget new property) instances (map (entry_by f) entries)
      → AnswersEach window (known_of budget new workers) property ticket instances (map (entry_by f) entries)
  entries_answered property ticket [] [] is accepts = tt
  entries_answered property ticket [] (entry ∷ entries) is accepts = absurd is
  entries_answered property ticket (instance ∷ instances) [] is accepts = absurd is
  entries_answered property ticket (instance ∷ instances) (entry ∷ entries) is accepts = (
    is.0,
    answer_answered property ticket instance.events entry.answer is.1 accepts.0.1,
    entries_answered property (ticket + 1) instances entries is.2 accepts.1,
  )

  listed_answered : (property : PropertyForm) (ticket : ℕ) (found : Result (List Instance) InstancesFault) (own : PropertyBody)
      → AnswersListed window (known_of budget old workers) property ticket found own → AcceptsListed window budget new property found (entries_by f own)
      → AnswersListed window (known_of budget new workers) property ticket found (entries_by f own)
  listed_answered property ticket (Err TooMany) body.TooMany is accepts = tt
  listed_answered property ticket (Err TooMany) (body.Entries entries) is accepts = absurd is
  listed_answered property ticket (Err Memory) own is accepts = absurd is
  listed_answered property ticket (Ok instances) body.TooMany is accepts = absurd is
  listed_answered property ticket (Ok instances) (body.Entries entries) is accepts = entries_answered property ticket instances entries is accepts

  properties_answered : (number ticket : ℕ) (properties : List PropertyForm) (records : List PropertyRecord)
      → AnswersProperties window (known_of budget old workers) number ticket properties records
      → AllZip (AcceptsProperty window budget new) (enumerate_from number properties) (map (property_by f) records)
      → AnswersProperties window (known_of budget new workers) number ticket properties (map (property_by f) records)
  properties_answered number ticket [] [] is accepts = tt
  properties_answered number ticket [] (own ∷ more) is accepts = absurd is
  properties_answered number ticket (property ∷ properties) [] is accepts = absurd is
  properties_answered number ticket (property ∷ properties) (own ∷ more) is accepts = (
    is.0,
    listed_answered property ticket (due_instances window property number) own.body is.1 accepts.0.1,
    properties_answered (number + 1) _ properties more is.2 accepts.1,
  )

module _ (window : WindowForm) (properties : List PropertyForm) (count budget : ℕ) where
  -- a window is answered by what is told of it, over its own shared steps
  abbrev AnswersDue : Result WindowForm BaseFault → WindowRecord → Type 0
  AnswersDue due own = AnswersBody window properties count (known_of budget own.shared own.records) due own.body

  abbrev AcceptsDue : Result WindowForm BaseFault → WindowRecord → Type 0
  AcceptsDue due own = AcceptsBody window budget properties own.shared due own.body

  list_answered : (encoded : WindowForm) (new : List Step) (f : List Step → List Step) (own : WindowRecord) (body : WindowBody)
      → AnswersBody window properties count (known_of budget own.shared own.records) (Ok encoded) body → AcceptsBody window budget properties new (Ok encoded) (body_by f body)
      → AnswersBody window properties count (known_of budget new own.records) (Ok encoded) (body_by f body)
  list_answered encoded new f own (told.TooLarge events clauses) is accepts = absurd is
  list_answered encoded new f own (told.Answers records) is accepts =
      (accepts.0, properties_answered window budget own.records own.shared new accepts.0 f 0 0 properties records is.1 accepts.1, is.2)

  -- the window told over a new shared list, where that is done
  abbrev told_over : Bool → List Step → (List Step → List Step) → WindowRecord → WindowRecord
  told_over few new f own = if few then record { number = own.number; shared = new; body = body_by f own.body; records = own.records } else own

  few_answered : (encoded : WindowForm) (few : Bool) (new : List Step) (f : List Step → List Step) (own : WindowRecord) → AnswersDue (Ok encoded) own
      → AcceptsDue (Ok encoded) (told_over few new f own) → AnswersDue (Ok encoded) (told_over few new f own)
  few_answered encoded false new f own is accepts = is
  few_answered encoded true new f own is accepts = list_answered encoded new f own own.body is accepts

  due_answered : (due : Result WindowForm BaseFault) (own : WindowRecord) → AnswersDue due own → AcceptsDue due (compacted_over due own) → AnswersDue due (compacted_over due own)
  due_answered (Err fault) own is accepts = is
  due_answered (Ok encoded) own is accepts =
      let sizes = sizes_of encoded own.shared in
      let new = with_entries sizes own.shared (entries_in_body own.body) in
      few_answered encoded (are_few sizes own.body) new (compacted_steps sizes new) own is accepts

windows_answered : (properties : List PropertyForm) (count budget : ℕ) (windows : List WindowForm) (records : List WindowRecord) → AllZip (AnswersWindow properties count budget) windows records
    → AllZip (AcceptsWindow properties budget) windows (compacted_windows windows records) → AllZip (AnswersWindow properties count budget) windows (compacted_windows windows records)
windows_answered properties count budget [] [] is accepts = tt
windows_answered properties count budget [] (own ∷ records) is accepts = absurd is
windows_answered properties count budget (window ∷ windows) [] is accepts = absurd is
windows_answered properties count budget (window ∷ windows) (own ∷ records) is accepts =
    (due_answered window properties count budget (base_due window) own is.0 accepts.0, windows_answered properties count budget windows records is.1 accepts.1)

pub compacted_answered : CompactKeepsAcceptance → CompactIsAnswered
compacted_answered keeps recording properties count budget report is =
    let accepted = (keeps recording properties report).1 (answered_accepted recording properties count budget report is) in
    record {
      same_budget = is.same_budget;
      windows = windows_answered properties count budget (all_windows recording) report.windows is.windows
          (subst (λ (n : ℕ). AllZip (AcceptsWindow properties n) (all_windows recording) (compacted recording report).windows) is.same_budget accepted);
    }
