-- A report that goes on from an old one is accepted.
use Rattle.std.proofs.Common.{◌≡◌, sym, subst, refl, ℕ, ◌+◌, ◌-◌, Bool, true, false, List, [], ◌∷◌, Option, Some, None, Result, Ok, Err, if◌then◌else◌, length, nat_lt, slice_get}
use Rattle.std.specs.List.{AllZip, enumerate_from}
use Rattle.gp_constraint.specs.declared.fault.BaseFault.{BaseFault}
use Rattle.gp_constraint.specs.declared.fault.BaseFault.TheVariants as no_window
use Rattle.gp_constraint.specs.Base.{base_of, clauses_of}
use Rattle.gp_constraint.specs.Encoded.{base_due, too_large}
use Rattle.gp_constraint.specs.Points.{points_of}
use Rattle.gp_constraint.specs.Query.{query_of}
use Rattle.gp_instance.specs.declared.instance.Instance.{Instance}
use Rattle.gp_instance.specs.declared.instance.InstancesFault.{InstancesFault}
use Rattle.gp_instance.specs.declared.instance.InstancesFault.TheVariants.{Memory, TooMany}
use Rattle.gp_instance.specs.Instances.{due_instances}
use Rattle.gp_property.specs.PropertyForm.{PropertyForm}
use Rattle.gp_report.specs.Records.{Answer, Entry, PropertyBody, PropertyRecord, WindowBody, WindowRecord}
use Rattle.gp_report.specs.declared.record.AnswerOf.TheVariants.{Found, Impossible, Undecided}
use Rattle.gp_report.specs.declared.record.PropertyBodyOf.TheVariants as body
use Rattle.gp_report.specs.declared.record.WindowBodyOf.TheVariants as told
use Rattle.gp_report.specs.ReportForm.{ReportForm}
use Rattle.gp_window.specs.declared.schedule.EventId.{EventId}
use Rattle.gp_window.specs.WindowForm.{WindowForm}
use Rattle.gp_window.specs.Windows.{all_windows}
use Rattle.gp_checker.specs.Accepted.{AcceptsAnswer, AcceptsBody, AcceptsEntry, AcceptsListed, AcceptsProperty, AcceptsWindow}
use Rattle.gp_analysis.specs.Answered.{AnswersBody, AnswersEach, AnswersListed, AnswersSubjects, AnswersWindow, Evidence, IsAnswerTo}
use Rattle.gp_analysis.specs.Question.{Holds}
use Rattle.gp_analysis.specs.Tickets.{tickets_listed, tickets_of}
use Rattle.gp_patterns.specs.Question.{left_out_in}
use Rattle.gp_resume.specs.Kept.{kept_answer}
use Rattle.gp_resumed.specs.Question.{resumed}
use Rattle.gp_acceptance.specs.Acceptance.{ResumedIsAccepted}
use Rattle.gp_acceptance.proofs.Acceptance.{spent_counted}

-- a window has constraints, or is too large
abbrev IsToldSo : Result WindowForm BaseFault → Type 0
IsToldSo (Ok encoded) = Unit {0}
IsToldSo (Err (no_window.TooLarge events clauses)) = Unit {0}
IsToldSo (Err no_window.Memory) = ⊥

told_where : (window : WindowForm) (points clauses : Bool)
    → IsToldSo (if points then too_large (length (points_of window)) 0 else (if clauses then too_large (length (points_of window)) 500001 else Ok window))
told_where window true clauses = tt
told_where window false true = tt
told_where window false false = tt

module _ (all : List PropertyForm) (old : ReportForm) where
  module _ (window : WindowForm) (known : Evidence) where
    holding_accepted : (subject : ℕ × PropertyForm) (ids : List EventId) (answer : Answer)
        → Holds (resumed all old) window subject ids known.shared answer → AcceptsAnswer window known.budget known.shared subject.1 ids answer
    holding_accepted subject ids (Found schedule) holds = (holds.feasible, holds.matches)
    holding_accepted subject ids (Impossible certificate) holds = (holds.refutes.checks.own, holds.refutes.ends)
    holding_accepted subject ids (Undecided worker from to) holds = absurd holds

    answer_accepted : (subject : ℕ × PropertyForm) (ticket : ℕ) (ids : List EventId) (given : Option Answer) (answer : Answer)
        → IsAnswerTo (resumed all old) window known subject ticket ids given answer → AcceptsAnswer window known.budget known.shared subject.1 ids answer
    answer_accepted subject ticket ids (Some given) answer is = holding_accepted subject ids answer is.1
    answer_accepted subject ticket ids None (Found schedule) is = (is.feasible, is.matches)
    answer_accepted subject ticket ids None (Impossible certificate) is = (is.refutes.checks.own, is.refutes.ends)
    answer_accepted subject ticket ids None (Undecided worker from to) is =
        spent_counted (base_of window) (query_of window subject.1 ids) (slice_get known.workers (worker - 1)) ticket known.budget from to is.own

    entries_accepted : (subject : ℕ × PropertyForm) (ticket : ℕ) (instances : List Instance) (entries : List Entry)
        → AnswersEach (resumed all old) window known subject ticket instances entries → AllZip (AcceptsEntry window known.budget known.shared subject.1) instances entries
    entries_accepted subject ticket [] [] is = tt
    entries_accepted subject ticket [] (entry ∷ entries) is = absurd is
    entries_accepted subject ticket (instance ∷ instances) [] is = absurd is
    entries_accepted subject ticket (instance ∷ instances) (entry ∷ entries) is = (
      (is.0, answer_accepted subject ticket instance.events (kept_answer old window subject.1 instance.events) entry.answer is.1),
      entries_accepted subject (ticket + tickets_of (kept_answer old window subject.1 instance.events)) instances entries is.2,
    )

    listed_accepted : (subject : ℕ × PropertyForm) (ticket : ℕ) (found : Result (List Instance) InstancesFault) (own : PropertyBody)
        → AnswersListed (resumed all old) window known subject ticket found own → AcceptsListed window known.budget known.shared subject.1 found own
    listed_accepted subject ticket (Err TooMany) body.TooMany is = tt
    listed_accepted subject ticket (Err TooMany) (body.Entries entries) is = absurd is
    listed_accepted subject ticket (Err Memory) own is = absurd is
    listed_accepted subject ticket (Ok instances) body.TooMany is = absurd is
    listed_accepted subject ticket (Ok instances) (body.Entries entries) is = entries_accepted subject ticket instances entries is

    properties_accepted : (place ticket number : ℕ) (properties : List PropertyForm) (records : List PropertyRecord)
        → AnswersSubjects (resumed all old) window known place ticket (enumerate_from number properties) records
        → AllZip (AcceptsProperty window known.budget known.shared) (enumerate_from number properties) records
    properties_accepted place ticket number [] [] is = tt
    properties_accepted place ticket number [] (own ∷ more) is = absurd is
    properties_accepted place ticket number (property ∷ properties) [] is = absurd is
    properties_accepted place ticket number (property ∷ properties) (own ∷ more) is = (
      (is.0, listed_accepted (number, property) ticket (due_instances window property number) own.body is.1),
      properties_accepted (place + 1) (ticket + tickets_listed (resumed all old) window (number, property) (due_instances window property number)) (number + 1) properties more is.2,
    )

    body_accepted : (count : ℕ) (due : Result WindowForm BaseFault) (own : WindowBody) → IsToldSo due
        → AnswersBody (resumed all old) window count known (left_out_in due) own → AcceptsBody window known.budget all known.shared due own
    body_accepted count (Err no_window.Memory) own so is = absurd so
    body_accepted count (Err (no_window.TooLarge events clauses)) (told.TooLarge more_events more_clauses) so is = is.0
    body_accepted count (Err (no_window.TooLarge events clauses)) (told.Answers records) so is = absurd is.0
    body_accepted count (Ok encoded) (told.TooLarge events clauses) so is = absurd is
    body_accepted count (Ok encoded) (told.Answers records) so is = (is.0, properties_accepted 0 0 0 all records is.1)

  windows_accepted : (count budget : ℕ) (windows : List WindowForm) (records : List WindowRecord)
      → AllZip (AnswersWindow (resumed all old) count budget) windows records → AllZip (AcceptsWindow all budget) windows records
  windows_accepted count budget [] [] is = tt
  windows_accepted count budget [] (own ∷ records) is = absurd is
  windows_accepted count budget (window ∷ windows) [] is = absurd is
  windows_accepted count budget (window ∷ windows) (own ∷ records) is = (
    body_accepted window (record { budget = budget; shared = own.shared; workers = own.records }) count (base_due window) own.body
        (told_where window (nat_lt 2048 (length (points_of window))) (nat_lt 500000 (length (clauses_of window)))) is.0,
    windows_accepted count budget windows records is.1,
  )

pub resumed_accepted : ResumedIsAccepted
resumed_accepted recording properties old count budget report is =
    subst (λ (n : ℕ). AllZip (AcceptsWindow properties n) (all_windows recording) report.windows) (sym is.same_budget)
    (windows_accepted properties old count budget (all_windows recording) report.windows is.windows)
