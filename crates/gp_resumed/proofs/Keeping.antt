-- A resumed report tells each answer that is kept, and those are the old ones that are decided.
use Rattle.std.proofs.Common.{◌≡◌, ◌∙◌, refl, sym, subst, ap, ℕ, ◌+◌, Bool, true, false, cond, Some, None, Option, List, [], ◌∷◌, Result, Ok, Err, All}
use Rattle.std.specs.List.{AllZip, enumerate_from}
use Rattle.std.proofs.lemmas.List.Elements.{All-cons, All-nil}
use Rattle.std.proofs.lemmas.Option.{none-some, same_Some}
use Rattle.gp_constraint.specs.declared.fault.BaseFault.{BaseFault}
use Rattle.gp_constraint.specs.declared.fault.BaseFault.TheVariants as no_window
use Rattle.gp_constraint.specs.Encoded.{base_due}
use Rattle.gp_instance.specs.declared.instance.Instance.{Instance}
use Rattle.gp_instance.specs.declared.instance.InstancesFault.{InstancesFault}
use Rattle.gp_instance.specs.declared.instance.InstancesFault.TheVariants.{Memory, TooMany}
use Rattle.gp_instance.specs.Instances.{due_instances}
use Rattle.gp_property.specs.PropertyForm.{PropertyForm}
use Rattle.gp_report.specs.Records.{Answer, Entry, PropertyBody, PropertyRecord, WindowBody, WindowRecord}
use Rattle.gp_report.specs.declared.record.PropertyBodyOf.TheVariants as body
use Rattle.gp_report.specs.declared.record.WindowBodyOf.TheVariants as told
use Rattle.gp_report.specs.Entries.{entries_in}
use Rattle.gp_report.specs.ReportForm.{ReportForm}
use Rattle.gp_window.specs.declared.schedule.EventId.{EventId}
use Rattle.gp_window.specs.WindowForm.{WindowForm}
use Rattle.gp_window.specs.Windows.{all_windows}
use Rattle.gp_analysis.specs.declared.question.LeftOut.{LeftOut}
use Rattle.gp_analysis.specs.declared.question.LeftOut.TheVariants as out
use Rattle.gp_analysis.specs.Answered.{AnswersBody, AnswersEach, AnswersListed, AnswersSubjects, AnswersWindow, Evidence, IsAnswerTo}
use Rattle.gp_analysis.specs.Tickets.{tickets_listed, tickets_of}
use Rattle.gp_patterns.specs.Question.{left_out_in}
use Rattle.gp_resume.specs.Kept.{kept_answer, where_passes}
use Rattle.gp_resume.specs.Old.{old_answer, old_record, shared_in}
use Rattle.gp_resume.specs.Standing.{stands}
use Rattle.gp_resumed.specs.Keeping.{BodyTellsKept, OldAnswersAreTold, PropertyTellsKept, TellsKept}
use Rattle.gp_resumed.specs.Question.{resumed}

-- that is not told of one that is too large
abbrev IsUnasked : LeftOut → Type 0
IsUnasked out.Unasked = Unit {0}
IsUnasked (out.TooLarge large) = ⊥

-- a window is never left out as one that is not asked
never_unasked : (due : Result WindowForm BaseFault) → Some out.Unasked ≡ left_out_in due → ⊥
never_unasked (Ok encoded) is = none-some out.Unasked (sym is)
never_unasked (Err (no_window.TooLarge events clauses)) is = subst IsUnasked (same_Some out.Unasked (out.TooLarge (record { events = events; clauses = clauses })) is) tt
never_unasked (Err no_window.Memory) is = subst IsUnasked (same_Some out.Unasked (out.TooLarge (record { events = 0; clauses = 0 })) is) tt

module _ (all : List PropertyForm) (old : ReportForm) where
  answer_kept_there : (window : WindowForm) (known : Evidence) (subject : ℕ × PropertyForm) (ticket : ℕ) (ids : List EventId) (given : Option Answer) (told_answer : Answer)
      → IsAnswerTo (resumed all old) window known subject ticket ids given told_answer → (answer : Answer) → given ≡ Some answer → told_answer ≡ answer
  answer_kept_there window known subject ticket ids None told_answer is answer same = absurd (none-some answer same)
  answer_kept_there window known subject ticket ids (Some given) told_answer is answer same = is.0 ∙ same_Some given answer same

  entries_kept : (window : WindowForm) (known : Evidence) (subject : ℕ × PropertyForm) (ticket : ℕ) (asks : List Instance) (entries : List Entry)
      → AnswersEach (resumed all old) window known subject ticket asks entries → All (TellsKept old window subject.1) entries
  entries_kept window known subject ticket [] [] are = All-nil (TellsKept old window subject.1)
  entries_kept window known subject ticket [] (entry ∷ entries) are = absurd are
  entries_kept window known subject ticket (ask ∷ asks) [] are = absurd are
  entries_kept window known subject ticket (ask ∷ asks) (entry ∷ entries) are =
      All-cons (TellsKept old window subject.1) entry entries
      (λ answer kept. answer_kept_there window known subject ticket ask.events (kept_answer old window subject.1 ask.events) entry.answer are.1 answer
      (subst (λ (ids : List EventId). kept_answer old window subject.1 ids ≡ Some answer) are.0 kept))
      (entries_kept window known subject (ticket + tickets_of (kept_answer old window subject.1 ask.events)) asks entries are.2)

  listed_kept : (window : WindowForm) (known : Evidence) (subject : ℕ × PropertyForm) (ticket : ℕ) (due : Result (List Instance) InstancesFault) (listed : PropertyBody)
      → AnswersListed (resumed all old) window known subject ticket due listed → All (TellsKept old window subject.1) (entries_in listed)
  listed_kept window known subject ticket due body.TooMany are = All-nil (TellsKept old window subject.1)
  listed_kept window known subject ticket (Ok asks) (body.Entries entries) are = entries_kept window known subject ticket asks entries are
  listed_kept window known subject ticket (Err TooMany) (body.Entries entries) are = absurd are
  listed_kept window known subject ticket (Err Memory) (body.Entries entries) are = absurd are

  properties_kept : (window : WindowForm) (known : Evidence) (number ticket first : ℕ) (properties : List PropertyForm) (records : List PropertyRecord)
      → AnswersSubjects (resumed all old) window known number ticket (enumerate_from first properties) records → AllZip (PropertyTellsKept old window) properties records
  properties_kept window known number ticket first [] [] are = are
  properties_kept window known number ticket first [] (own ∷ records) are = absurd are
  properties_kept window known number ticket first (property ∷ properties) [] are = absurd are
  properties_kept window known number ticket first (property ∷ properties) (own ∷ records) are = (
    listed_kept window known (first, property) ticket (due_instances window property first) own.body are.1,
    properties_kept window known (number + 1) (ticket + tickets_listed (resumed all old) window (first, property) (due_instances window property first)) (first + 1) properties records are.2,
  )

  body_kept : (window : WindowForm) (count : ℕ) (known : Evidence) (left : Option LeftOut) (own : WindowBody) → left ≡ left_out_in (base_due window)
      → AnswersBody (resumed all old) window count known left own → BodyTellsKept all old window own
  body_kept window count known left (told.TooLarge events clauses) is are = tt
  body_kept window count known None (told.Answers records) is are = properties_kept window known 0 0 0 all records are.1
  body_kept window count known (Some (out.TooLarge large)) (told.Answers records) is are = absurd are.0
  body_kept window count known (Some out.Unasked) (told.Answers records) is are = absurd (never_unasked (base_due window) is)

  windows_kept : (count budget : ℕ) (windows : List WindowForm) (records : List WindowRecord) → AllZip (AnswersWindow (resumed all old) count budget) windows records
      → AllZip (λ (window : WindowForm) (own : WindowRecord). BodyTellsKept all old window own.body) windows records
  windows_kept count budget [] [] are = are
  windows_kept count budget [] (own ∷ records) are = absurd are
  windows_kept count budget (window ∷ windows) [] are = absurd are
  windows_kept count budget (window ∷ windows) (own ∷ records) are = (
    body_kept window count (record { budget = budget; shared = own.shared; workers = own.records }) (left_out_in (base_due window)) own.body refl are.0,
    windows_kept count budget windows records are.1,
  )

-- what passes a test is what was tested
passed_is : (test : Answer → Bool) (found : Option Answer) (answer : Answer) → where_passes test found ≡ Some answer → found ≡ Some answer
passed_is test None answer is = is
passed_is test (Some one) answer is = at (test one) is
  where
    at : (passes : Bool) → cond passes (Some one) None ≡ Some answer → Some one ≡ Some answer
    at true same = same
    at false same = absurd (none-some answer same)

pub old_answers_are_told_lem : OldAnswersAreTold
old_answers_are_told_lem = record {
  told = λ recording properties old count budget report is. windows_kept properties old count budget (all_windows recording) report.windows is.windows;
  same = λ old window property ids answer is.
      passed_is (stands (shared_in (old_record old window.number)) window property ids) (old_answer (old_record old window.number) property.name ids) answer is;
  decided = λ old window property ids worker from to is.
      ap (where_passes (stands (shared_in (old_record old window.number)) window property ids)) is;
}
