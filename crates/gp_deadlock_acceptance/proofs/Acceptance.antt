-- A report that answers the deadlocks of a recording is accepted.
use Rattle.std.proofs.Common.{◌≡◌, sym, ap, ◌∙◌, subst, ℕ, ◌+◌, ◌-◌, Bool, true, false, List, [], ◌∷◌, Option, Some, None, Result, Ok, Err, IsSomeAnd, if◌then◌else◌, length, nat_lt, slice_get}
use Rattle.std.specs.List.{AllZip}
use Rattle.gp_analysis.specs.Answered.{AnswersBody, AnswersEach, AnswersListed, AnswersSubjects, AnswersWindow, Evidence, IsAnswer}
use Rattle.gp_clause.specs.declared.problem.Problem.{Problem}
use Rattle.gp_clause.specs.declared.problem.Query.{Query}
use Rattle.gp_constraint.specs.declared.fault.BaseFault.{BaseFault}
use Rattle.gp_constraint.specs.declared.fault.BaseFault.TheVariants as no_window
use Rattle.gp_constraint.specs.Base.{base_of, clauses_of}
use Rattle.gp_constraint.specs.Encoded.{base_due, too_large}
use Rattle.gp_constraint.specs.Points.{points_of}
use Rattle.gp_derivation.specs.declared.record.WorkerRecord.{WorkerRecord}
use Rattle.gp_derivation.specs.Spent.{HasTurnSpentOn}
use Rattle.gp_instance.specs.declared.instance.Instance.{Instance}
use Rattle.gp_instance.specs.declared.instance.InstancesFault.{InstancesFault}
use Rattle.gp_instance.specs.declared.instance.InstancesFault.TheVariants.{Memory, TooMany}
use Rattle.gp_patterns.specs.Question.{left_out_in}
use Rattle.gp_report.specs.Records.{Answer, Entry, PropertyBody, PropertyRecord, WindowBody, WindowRecord}
use Rattle.gp_report.specs.declared.record.AnswerOf.TheVariants.{Found, Impossible, Undecided}
use Rattle.gp_report.specs.declared.record.PropertyBodyOf.TheVariants as body
use Rattle.gp_report.specs.declared.record.WindowBodyOf.TheVariants as told
use Rattle.gp_stuck.specs.Cycles.{due_cycles}
use Rattle.gp_stuck.specs.StuckQuery.{stuck_query_of}
use Rattle.gp_window.specs.declared.schedule.EventId.{EventId}
use Rattle.gp_window.specs.WindowForm.{WindowForm}
use Rattle.gp_window.specs.Windows.{all_windows}
use Rattle.gp_deadlocks.specs.Question.{deadlocks}
use Rattle.gp_deadlock_checker.specs.Accepted.{AcceptsAnswer, AcceptsBody, AcceptsEntry, AcceptsListed, AcceptsProperty, AcceptsWindow, subjects}
use Rattle.gp_deadlock_acceptance.specs.Acceptance.{AnsweredDeadlocksAreAccepted}

-- a turn that is spent has as many entries as its budget
turn_counted : (problem : Problem) (query : Query) (worker : WorkerRecord) (ticket budget from to : ℕ) → HasTurnSpentOn problem query worker ticket budget from to → to ≡ from + budget
turn_counted problem query worker ticket budget from to (turn, within, ticketed, spent) = sym spent.ends ∙ spent.learning.counted ∙ ap (λ (n : ℕ). n + budget) spent.begins

spent_counted : (problem : Problem) (query : Query) (own : Option WorkerRecord) (ticket budget from to : ℕ)
    → IsSomeAnd own (λ (worker : WorkerRecord). HasTurnSpentOn problem query worker ticket budget from to) → to ≡ from + budget
spent_counted problem query None ticket budget from to spent = absurd spent
spent_counted problem query (Some worker) ticket budget from to spent = turn_counted problem query worker ticket budget from to spent

-- a window has constraints, or is too large
abbrev IsToldSo : Result WindowForm BaseFault → Type 0
IsToldSo (Ok encoded) = Unit {0}
IsToldSo (Err (no_window.TooLarge events clauses)) = Unit {0}
IsToldSo (Err no_window.Memory) = ⊥

told_where : (window : WindowForm) (points clauses : Bool)
    → IsToldSo (if points then too_large (length (points_of window)) 0 else (if clauses then too_large (length (points_of window)) 500001 else Ok window))
told_where window true clauses = tt
told_where window false true = tt
told_where window false false = tt

module _ (window : WindowForm) (known : Evidence) (name : List ℕ) where
  answer_accepted : (ticket : ℕ) (ids : List EventId) (answer : Answer) → IsAnswer deadlocks window known name ticket ids answer → AcceptsAnswer window known.budget known.shared ids answer
  answer_accepted ticket ids (Found schedule) is = is
  answer_accepted ticket ids (Impossible certificate) is = (is.refutes.checks.own, is.refutes.ends)
  answer_accepted ticket ids (Undecided worker from to) is =
      spent_counted (base_of window) (stuck_query_of window ids) (slice_get known.workers (worker - 1)) ticket known.budget from to is.own

  entries_accepted : (ticket : ℕ) (cycles : List Instance) (entries : List Entry)
      → AnswersEach deadlocks window known name ticket cycles entries → AllZip (AcceptsEntry window known.budget known.shared) cycles entries
  entries_accepted ticket [] [] is = tt
  entries_accepted ticket [] (entry ∷ entries) is = absurd is
  entries_accepted ticket (cycle ∷ cycles) [] is = absurd is
  entries_accepted ticket (cycle ∷ cycles) (entry ∷ entries) is =
      ((is.0, answer_accepted ticket cycle.events entry.answer is.1), entries_accepted (ticket + 1) cycles entries is.2)

  listed_accepted : (ticket : ℕ) (found : Result (List Instance) InstancesFault) (own : PropertyBody)
      → AnswersListed deadlocks window known name ticket found own → AcceptsListed window known.budget known.shared found own
  listed_accepted ticket (Err TooMany) body.TooMany is = tt
  listed_accepted ticket (Err TooMany) (body.Entries entries) is = absurd is
  listed_accepted ticket (Err Memory) own is = absurd is
  listed_accepted ticket (Ok cycles) body.TooMany is = absurd is
  listed_accepted ticket (Ok cycles) (body.Entries entries) is = entries_accepted ticket cycles entries is

module _ (window : WindowForm) (known : Evidence) where
  properties_accepted : (number ticket : ℕ) (names : List (List ℕ)) (records : List PropertyRecord)
      → AnswersSubjects deadlocks window known number ticket names records → AllZip (AcceptsProperty window known.budget known.shared) names records
  properties_accepted number ticket [] [] is = tt
  properties_accepted number ticket [] (own ∷ more) is = absurd is
  properties_accepted number ticket (name ∷ names) [] is = absurd is
  properties_accepted number ticket (name ∷ names) (own ∷ more) is =
      ((is.0, listed_accepted window known name ticket (due_cycles window) own.body is.1), properties_accepted (number + 1) _ names more is.2)

  body_accepted : (count : ℕ) (due : Result WindowForm BaseFault) (own : WindowBody) → IsToldSo due
      → AnswersBody deadlocks window count known (left_out_in due) own → AcceptsBody window known.budget known.shared due own
  body_accepted count (Err no_window.Memory) own so is = absurd so
  body_accepted count (Err (no_window.TooLarge events clauses)) (told.TooLarge more_events more_clauses) so is = is.0
  body_accepted count (Err (no_window.TooLarge events clauses)) (told.Answers records) so is = absurd is.0
  body_accepted count (Ok encoded) (told.TooLarge events clauses) so is = absurd is
  body_accepted count (Ok encoded) (told.Answers records) so is = (is.0, properties_accepted 0 0 subjects records is.1)

windows_accepted : (count budget : ℕ) (windows : List WindowForm) (records : List WindowRecord)
    → AllZip (AnswersWindow deadlocks count budget) windows records → AllZip (AcceptsWindow budget) windows records
windows_accepted count budget [] [] is = tt
windows_accepted count budget [] (own ∷ records) is = absurd is
windows_accepted count budget (window ∷ windows) [] is = absurd is
windows_accepted count budget (window ∷ windows) (own ∷ records) is = (
  body_accepted window (record { budget = budget; shared = own.shared; workers = own.records }) count (base_due window) own.body
      (told_where window (nat_lt 2048 (length (points_of window))) (nat_lt 500000 (length (clauses_of window)))) is.0,
  windows_accepted count budget windows records is.1,
)

pub answered_accepted : AnsweredDeadlocksAreAccepted
answered_accepted recording count budget report is =
    subst (λ (n : ℕ). AllZip (AcceptsWindow n) (all_windows recording) report.windows) (sym is.same_budget)
    (windows_accepted count budget (all_windows recording) report.windows is.windows)
