-- What the question for patterns says of a recording is what is said of its properties.
use Rattle.std.proofs.Common.{◌≡◌, ◌∙◌, sym, subst, ap, refl, ℕ, ◌+◌, ◌*◌, Bool, true, false, List, [], ◌∷◌, Some, None, Result, Ok, Err, length, nat_lt, if◌then◌else◌, sum_by, arith}
use Rattle.std.specs.List.{AllZip}
use Rattle.std.proofs.lemmas.List.Sums.{sum_by-cons}
use Rattle.gp_constraint.specs.declared.fault.BaseFault.{BaseFault}
use Rattle.gp_constraint.specs.declared.fault.BaseFault.TheVariants as no_window
use Rattle.gp_constraint.specs.Base.{base_of, clauses_of}
use Rattle.gp_constraint.specs.Encoded.{base_due, too_large}
use Rattle.gp_constraint.specs.Points.{points_of}
use Rattle.gp_instance.specs.declared.instance.Instance.{Instance}
use Rattle.gp_instance.specs.declared.instance.InstancesFault.{InstancesFault}
use Rattle.gp_instance.specs.declared.instance.InstancesFault.TheVariants.{Memory, TooMany}
use Rattle.gp_instance.specs.Instances.{due_instances}
use Rattle.gp_property.specs.PropertyForm.{PropertyForm}
use Rattle.gp_report.specs.declared.record.AnswerOf.TheVariants.{Found, Impossible, Undecided}
use Rattle.gp_report.specs.declared.record.PropertyBodyOf.TheVariants as body
use Rattle.gp_report.specs.declared.record.WindowBodyOf.TheVariants as told
use Rattle.gp_report.specs.Records.{Answer, Entry, PropertyBody, PropertyRecord, WindowBody, WindowRecord}
use Rattle.gp_window.specs.declared.schedule.EventId.{EventId}
use Rattle.gp_window.specs.RecordingForm.{RecordingForm}
use Rattle.gp_window.specs.WindowForm.{WindowForm, numbers_from, window_of}
use Rattle.gp_window.specs.Windows.{all_windows}
use Rattle.gp_analysis.specs.Answered.{AreWorkers, Evidence}
use Rattle.gp_analysis.specs.Answered as question
use Rattle.gp_analysis.specs.Tickets as ticket
use Rattle.gp_patterns.specs.Answered.{AnswersBody, AnswersEach, AnswersListed, AnswersProperties, AnswersWindow, IsAnswer}
use Rattle.gp_patterns.specs.Question.{PatternsAnswered, left_out_in, patterns}
use Rattle.gp_patterns.specs.Tickets.{asked_in, asked_of, asked_total, listed_count, properties_count, too_much, window_asked}

-- as many asks have a ticket as instances are listed
tickets_same : (ps : List PropertyForm) (window : WindowForm) (property : PropertyForm) (found : List Instance) → ticket.tickets_in (patterns ps) window property found ≡ length found
tickets_same ps window property [] = refl
tickets_same ps window property (instance ∷ found) =
    let rest : ticket.tickets_in (patterns ps) window property found ≡ length found = tickets_same ps window property found in
    omega (arith, rest)

listed_same : (ps : List PropertyForm) (window : WindowForm) (property : PropertyForm) (due : Result (List Instance) InstancesFault) → ticket.tickets_listed (patterns ps) window property due ≡ listed_count due
listed_same ps window property (Ok found) = tickets_same ps window property found
listed_same ps window property (Err fault) = refl

pub count_same : (ps : List PropertyForm) (window : WindowForm) (number : ℕ) (properties : List PropertyForm) → ticket.subjects_tickets (patterns ps) window number properties ≡ properties_count window number properties
count_same ps window number [] = refl
count_same ps window number (property ∷ properties) =
    (λ i. listed_same ps window property (due_instances window property number) i + count_same ps window (number + 1) properties i)

large_same : (due : Result WindowForm BaseFault) (count : ℕ) → ticket.asked_of (left_out_in due) count ≡ asked_of due count
large_same (Ok encoded) count = refl
large_same (Err (no_window.TooLarge events clauses)) count = refl
large_same (Err no_window.Memory) count = refl

window_same : (ps : List PropertyForm) (window : WindowForm) → ticket.window_asked (patterns ps) window ≡ window_asked ps window
window_same ps window =
    large_same (base_due window) (ticket.subjects_tickets (patterns ps) window 0 ps) ∙ ap (asked_of (base_due window)) (count_same ps window 0 ps)

sum_same : (f g : ℕ → ℕ) (ks : List ℕ) → ((k : ℕ) → f k ≡ g k) → sum_by f ks ≡ sum_by g ks
sum_same f g [] each = refl
sum_same f g (k ∷ ks) each = sum_by-cons f k ks ∙ (λ i. each k i + sum_same f g ks each i) ∙ sym (sum_by-cons g k ks)

-- so the same is asked in all windows
pub total_same : (r : RecordingForm) (ps : List PropertyForm) → ticket.asked_total (patterns ps) r ≡ asked_total r ps
total_same r ps = sum_same (ticket.asked_in (patterns ps) r) (asked_in r ps) (numbers_from 1 r.manifest.epochs) (λ k. window_same ps (window_of r k))

pub much_same : (r : RecordingForm) (ps : List PropertyForm) (budget : ℕ) → ticket.too_much (patterns ps) r budget ≡ too_much r ps budget
much_same r ps budget = ap (λ (n : ℕ). if nat_lt 1000000 (n * budget) then Some n else None) (total_same r ps)

-- an answer of an instance
answer_there : (ps : List PropertyForm) (window : WindowForm) (known : Evidence) (property : PropertyForm) (number : ℕ) (ids : List EventId) (answer : Answer)
    → question.IsAnswer (patterns ps) window known property number ids answer → IsAnswer window known property number ids answer
answer_there ps window known property number ids (Found schedule) is = is
answer_there ps window known property number ids (Impossible certificate) is =
    record { impossible = λ possible. is.impossible (record { events = possible.0 }) (record { feasible = possible.1; matches = possible.2 }); refutes = is.refutes }
answer_there ps window known property number ids (Undecided worker from to) is = is

answer_back : (ps : List PropertyForm) (window : WindowForm) (known : Evidence) (property : PropertyForm) (number : ℕ) (ids : List EventId) (answer : Answer)
    → IsAnswer window known property number ids answer → question.IsAnswer (patterns ps) window known property number ids answer
answer_back ps window known property number ids (Found schedule) is = is
answer_back ps window known property number ids (Impossible certificate) is =
    record { impossible = λ schedule shown. is.impossible (schedule.events, shown.feasible, shown.matches); refutes = is.refutes }
answer_back ps window known property number ids (Undecided worker from to) is = is

-- the entries of a property
each_there : (ps : List PropertyForm) (window : WindowForm) (known : Evidence) (property : PropertyForm) (number : ℕ) (found : List Instance) (entries : List Entry)
    → question.AnswersEach (patterns ps) window known property number found entries → AnswersEach window known property number found entries
each_there ps window known property number [] [] is = is
each_there ps window known property number [] (entry ∷ entries) is = is
each_there ps window known property number (instance ∷ found) [] is = is
each_there ps window known property number (instance ∷ found) (entry ∷ entries) is =
    (is.0, answer_there ps window known property number instance.events entry.answer is.1, each_there ps window known property (number + 1) found entries is.2)

each_back : (ps : List PropertyForm) (window : WindowForm) (known : Evidence) (property : PropertyForm) (number : ℕ) (found : List Instance) (entries : List Entry)
    → AnswersEach window known property number found entries → question.AnswersEach (patterns ps) window known property number found entries
each_back ps window known property number [] [] is = is
each_back ps window known property number [] (entry ∷ entries) is = is
each_back ps window known property number (instance ∷ found) [] is = is
each_back ps window known property number (instance ∷ found) (entry ∷ entries) is =
    (is.0, answer_back ps window known property number instance.events entry.answer is.1, each_back ps window known property (number + 1) found entries is.2)

-- what is recorded of a property
body_there : (ps : List PropertyForm) (window : WindowForm) (known : Evidence) (property : PropertyForm) (number : ℕ) (due : Result (List Instance) InstancesFault) (own : PropertyBody)
    → question.AnswersListed (patterns ps) window known property number due own → AnswersListed window known property number due own
body_there ps window known property number (Err TooMany) body.TooMany is = is
body_there ps window known property number (Err TooMany) (body.Entries entries) is = is
body_there ps window known property number (Err Memory) body.TooMany is = is
body_there ps window known property number (Err Memory) (body.Entries entries) is = is
body_there ps window known property number (Ok found) body.TooMany is = is
body_there ps window known property number (Ok found) (body.Entries entries) is = each_there ps window known property number found entries is

body_back : (ps : List PropertyForm) (window : WindowForm) (known : Evidence) (property : PropertyForm) (number : ℕ) (due : Result (List Instance) InstancesFault) (own : PropertyBody)
    → AnswersListed window known property number due own → question.AnswersListed (patterns ps) window known property number due own
body_back ps window known property number (Err TooMany) body.TooMany is = is
body_back ps window known property number (Err TooMany) (body.Entries entries) is = is
body_back ps window known property number (Err Memory) body.TooMany is = is
body_back ps window known property number (Err Memory) (body.Entries entries) is = is
body_back ps window known property number (Ok found) body.TooMany is = is
body_back ps window known property number (Ok found) (body.Entries entries) is = each_back ps window known property number found entries is

-- the records of the properties
properties_there : (ps : List PropertyForm) (window : WindowForm) (known : Evidence) (place number : ℕ) (properties : List PropertyForm) (records : List PropertyRecord)
    → question.AnswersSubjects (patterns ps) window known place number properties records → AnswersProperties window known place number properties records
properties_there ps window known place number [] [] is = is
properties_there ps window known place number [] (own ∷ records) is = is
properties_there ps window known place number (property ∷ properties) [] is = is
properties_there ps window known place number (property ∷ properties) (own ∷ records) is =
    let due = due_instances window property place in (
      is.0,
      body_there ps window known property number due own.body is.1,
      properties_there ps window known (place + 1) (number + listed_count due) properties records
          (subst (λ (n : ℕ). question.AnswersSubjects (patterns ps) window known (place + 1) (number + n) properties records) (listed_same ps window property due) is.2),
    )

properties_back : (ps : List PropertyForm) (window : WindowForm) (known : Evidence) (place number : ℕ) (properties : List PropertyForm) (records : List PropertyRecord)
    → AnswersProperties window known place number properties records → question.AnswersSubjects (patterns ps) window known place number properties records
properties_back ps window known place number [] [] is = is
properties_back ps window known place number [] (own ∷ records) is = is
properties_back ps window known place number (property ∷ properties) [] is = is
properties_back ps window known place number (property ∷ properties) (own ∷ records) is =
    let due = due_instances window property place in (
      is.0,
      body_back ps window known property number due own.body is.1,
      subst (λ (n : ℕ). question.AnswersSubjects (patterns ps) window known (place + 1) (number + n) properties records) (sym (listed_same ps window property due))
          (properties_back ps window known (place + 1) (number + listed_count due) properties records is.2),
    )

-- constraints are never due to want memory
abbrev HasNone : Result WindowForm BaseFault → Type 0
HasNone (Err no_window.Memory) = ⊥
HasNone (Err (no_window.TooLarge events clauses)) = Unit {0}
HasNone (Ok encoded) = Unit {0}

due_where : (window : WindowForm) (points clauses : Bool)
    → HasNone (if points then too_large (length (points_of window)) 0 else (if clauses then too_large (length (points_of window)) 500001 else Ok window))
due_where window true clauses = tt
due_where window false true = tt
due_where window false false = tt

-- what is recorded of a window
window_there : (ps : List PropertyForm) (window : WindowForm) (count : ℕ) (known : Evidence) (due : Result WindowForm BaseFault) (own : WindowBody) → HasNone due
    → question.AnswersBody (patterns ps) window count known (left_out_in due) own → AnswersBody window ps count known due own
window_there ps window count known (Err no_window.Memory) own due is = absurd due
window_there ps window count known (Err (no_window.TooLarge events clauses)) (told.TooLarge more_events more_clauses) due is = (is.0.0, is.0.1, is.1)
window_there ps window count known (Err (no_window.TooLarge events clauses)) (told.Answers records) due is = is.0
window_there ps window count known (Ok encoded) (told.TooLarge more_events more_clauses) due is = is
window_there ps window count known (Ok encoded) (told.Answers records) due is =
    (is.0, properties_there ps window known 0 0 ps records is.1, subst (λ (n : ℕ). AreWorkers (base_of window) count n known.workers) (count_same ps window 0 ps) is.2)

window_back : (ps : List PropertyForm) (window : WindowForm) (count : ℕ) (known : Evidence) (due : Result WindowForm BaseFault) (own : WindowBody)
    → AnswersBody window ps count known due own → question.AnswersBody (patterns ps) window count known (left_out_in due) own
window_back ps window count known (Err no_window.Memory) own is = absurd is
window_back ps window count known (Err (no_window.TooLarge events clauses)) (told.TooLarge more_events more_clauses) is = ((is.0, is.1), is.2)
window_back ps window count known (Err (no_window.TooLarge events clauses)) (told.Answers records) is = absurd is
window_back ps window count known (Ok encoded) (told.TooLarge more_events more_clauses) is = is
window_back ps window count known (Ok encoded) (told.Answers records) is =
    (is.0, properties_back ps window known 0 0 ps records is.1, subst (λ (n : ℕ). AreWorkers (base_of window) count n known.workers) (sym (count_same ps window 0 ps)) is.2)

-- the windows
pub windows_there : (ps : List PropertyForm) (count budget : ℕ) (windows : List WindowForm) (records : List WindowRecord)
    → AllZip (question.AnswersWindow (patterns ps) count budget) windows records → AllZip (AnswersWindow ps count budget) windows records
windows_there ps count budget [] [] is = is
windows_there ps count budget [] (own ∷ records) is = is
windows_there ps count budget (window ∷ windows) [] is = is
windows_there ps count budget (window ∷ windows) (own ∷ records) is = (
  window_there ps window count (record { budget = budget; shared = own.shared; workers = own.records }) (base_due window) own.body
      (due_where window (nat_lt 2048 (length (points_of window))) (nat_lt 500000 (length (clauses_of window)))) is.0,
  windows_there ps count budget windows records is.1,
)

windows_back : (ps : List PropertyForm) (count budget : ℕ) (windows : List WindowForm) (records : List WindowRecord)
    → AllZip (AnswersWindow ps count budget) windows records → AllZip (question.AnswersWindow (patterns ps) count budget) windows records
windows_back ps count budget [] [] is = is
windows_back ps count budget [] (own ∷ records) is = is
windows_back ps count budget (window ∷ windows) [] is = is
windows_back ps count budget (window ∷ windows) (own ∷ records) is = (
  window_back ps window count (record { budget = budget; shared = own.shared; workers = own.records }) (base_due window) own.body is.0,
  windows_back ps count budget windows records is.1,
)

pub patterns_answered_lem : PatternsAnswered
patterns_answered_lem recording properties count budget report = (
  λ is. (is.same_budget, windows_back properties count budget (all_windows recording) report.windows is.windows),
  λ is. record { same_budget = is.0; windows = windows_there properties count budget (all_windows recording) report.windows is.1 },
)
