-- A report that is answered is accepted.
use Rattle.std.proofs.Common.{◌≡◌, sym, ap, ◌∙◌, subst, ℕ, ◌+◌, ◌-◌, List, [], ◌∷◌, Option, Some, None, Result, Ok, Err, IsSomeAnd, slice_get}
use Rattle.std.specs.List.{AllZip, enumerate_from}
use Rattle.gp_clause.specs.declared.problem.Problem.{Problem}
use Rattle.gp_clause.specs.declared.problem.Query.{Query}
use Rattle.gp_constraint.specs.declared.fault.BaseFault.{BaseFault}
use Rattle.gp_constraint.specs.declared.fault.BaseFault.TheVariants as no_window
use Rattle.gp_constraint.specs.Base.{base_of}
use Rattle.gp_constraint.specs.Encoded.{base_due}
use Rattle.gp_constraint.specs.Query.{query_of}
use Rattle.gp_derivation.specs.declared.record.WorkerRecord.{WorkerRecord}
use Rattle.gp_derivation.specs.Spent.{HasTurnSpentOn}
use Rattle.gp_instance.specs.declared.instance.Instance.{Instance}
use Rattle.gp_instance.specs.declared.instance.InstancesFault.{InstancesFault}
use Rattle.gp_instance.specs.declared.instance.InstancesFault.TheVariants.{Memory, TooMany}
use Rattle.gp_instance.specs.Instances.{due_instances}
use Rattle.gp_property.specs.PropertyForm.{PropertyForm}
use Rattle.gp_report.specs.Records.{Answer, Entry, PropertyBody, PropertyRecord, WindowBody, WindowRecord}
use Rattle.gp_report.specs.declared.record.AnswerOf.TheVariants.{Found, Impossible, Undecided}
use Rattle.gp_report.specs.declared.record.PropertyBodyOf.TheVariants as body
use Rattle.gp_report.specs.declared.record.WindowBodyOf.TheVariants as told
use Rattle.gp_window.specs.declared.schedule.EventId.{EventId}
use Rattle.gp_window.specs.WindowForm.{WindowForm}
use Rattle.gp_window.specs.Windows.{all_windows}
use Rattle.gp_checker.specs.Accepted.{AcceptsAnswer, AcceptsBody, AcceptsEntry, AcceptsListed, AcceptsProperty, AcceptsWindow}
use Rattle.gp_acceptance.specs.Acceptance.{AnsweredIsAccepted}
use Rattle.gp_analysis.specs.Answered.{Evidence}
use Rattle.gp_patterns.specs.Answered.{AnswersBody, AnswersEach, AnswersListed, AnswersProperties, AnswersWindow, IsAnswer}

-- a turn that is spent has as many entries as its budget
turn_counted : (problem : Problem) (query : Query) (worker : WorkerRecord) (ticket budget from to : ℕ) → HasTurnSpentOn problem query worker ticket budget from to → to ≡ from + budget
turn_counted problem query worker ticket budget from to (turn, within, ticketed, spent) = sym spent.ends ∙ spent.learning.counted ∙ ap (λ (n : ℕ). n + budget) spent.begins

pub spent_counted : (problem : Problem) (query : Query) (own : Option WorkerRecord) (ticket budget from to : ℕ)
    → IsSomeAnd own (λ (worker : WorkerRecord). HasTurnSpentOn problem query worker ticket budget from to) → to ≡ from + budget
spent_counted problem query None ticket budget from to spent = absurd spent
spent_counted problem query (Some worker) ticket budget from to spent = turn_counted problem query worker ticket budget from to spent

module _ (window : WindowForm) (known : Evidence) where
  answer_accepted : (property : PropertyForm) (ticket : ℕ) (ids : List EventId) (answer : Answer)
      → IsAnswer window known property ticket ids answer → AcceptsAnswer window known.budget known.shared property ids answer
  answer_accepted property ticket ids (Found schedule) is = (is.feasible, is.matches)
  answer_accepted property ticket ids (Impossible certificate) is = (is.refutes.checks.own, is.refutes.ends)
  answer_accepted property ticket ids (Undecided worker from to) is =
      spent_counted (base_of window) (query_of window property ids) (slice_get known.workers (worker - 1)) ticket known.budget from to is.own

  entries_accepted : (property : PropertyForm) (ticket : ℕ) (instances : List Instance) (entries : List Entry)
      → AnswersEach window known property ticket instances entries → AllZip (AcceptsEntry window known.budget known.shared property) instances entries
  entries_accepted property ticket [] [] is = tt
  entries_accepted property ticket [] (entry ∷ entries) is = absurd is
  entries_accepted property ticket (instance ∷ instances) [] is = absurd is
  entries_accepted property ticket (instance ∷ instances) (entry ∷ entries) is =
      ((is.0, answer_accepted property ticket instance.events entry.answer is.1), entries_accepted property (ticket + 1) instances entries is.2)

  listed_accepted : (property : PropertyForm) (ticket : ℕ) (found : Result (List Instance) InstancesFault) (told : PropertyBody)
      → AnswersListed window known property ticket found told → AcceptsListed window known.budget known.shared property found told
  listed_accepted property ticket (Err TooMany) body.TooMany is = tt
  listed_accepted property ticket (Err TooMany) (body.Entries entries) is = absurd is
  listed_accepted property ticket (Err Memory) told is = absurd is
  listed_accepted property ticket (Ok instances) body.TooMany is = absurd is
  listed_accepted property ticket (Ok instances) (body.Entries entries) is = entries_accepted property ticket instances entries is

  properties_accepted : (number ticket : ℕ) (properties : List PropertyForm) (records : List PropertyRecord)
      → AnswersProperties window known number ticket properties records → AllZip (AcceptsProperty window known.budget known.shared) (enumerate_from number properties) records
  properties_accepted number ticket [] [] is = tt
  properties_accepted number ticket [] (told ∷ more) is = absurd is
  properties_accepted number ticket (property ∷ properties) [] is = absurd is
  properties_accepted number ticket (property ∷ properties) (told ∷ more) is =
      ((is.0, listed_accepted property ticket (due_instances window property number) told.body is.1), properties_accepted (number + 1) _ properties more is.2)

  body_accepted : (properties : List PropertyForm) (count : ℕ) (due : Result WindowForm BaseFault) (told : WindowBody)
      → AnswersBody window properties count known due told → AcceptsBody window known.budget properties known.shared due told
  body_accepted properties count (Err (no_window.TooLarge events clauses)) (told.TooLarge more_events more_clauses) is = (is.0, is.1)
  body_accepted properties count (Err (no_window.TooLarge events clauses)) (told.Answers records) is = absurd is
  body_accepted properties count (Err no_window.Memory) told is = absurd is
  body_accepted properties count (Ok encoded) (told.TooLarge events clauses) is = absurd is
  body_accepted properties count (Ok encoded) (told.Answers records) is = (is.0, properties_accepted 0 0 properties records is.1)

windows_accepted : (properties : List PropertyForm) (count budget : ℕ) (windows : List WindowForm) (records : List WindowRecord)
    → AllZip (AnswersWindow properties count budget) windows records → AllZip (AcceptsWindow properties budget) windows records
windows_accepted properties count budget [] [] is = tt
windows_accepted properties count budget [] (told ∷ records) is = absurd is
windows_accepted properties count budget (window ∷ windows) [] is = absurd is
windows_accepted properties count budget (window ∷ windows) (told ∷ records) is =
    let known : Evidence = record { budget = budget; shared = told.shared; workers = told.records } in
    (body_accepted window known properties count (base_due window) told.body is.0, windows_accepted properties count budget windows records is.1)

pub answered_accepted : AnsweredIsAccepted
answered_accepted recording properties count budget report is =
    subst (λ (n : ℕ). AllZip (AcceptsWindow properties n) (all_windows recording) report.windows) (sym is.same_budget)
    (windows_accepted properties count budget (all_windows recording) report.windows is.windows)
