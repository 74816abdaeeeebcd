-- What is recorded of all windows answers the recording, and tells which windows may be left out for a wake.
use Rattle.std.proofs.Common.{◌≡◌, refl, ℕ, zero, suc, ◌+◌, ◌≤◌, false, List, [], ◌∷◌, Result, Ok, Err, map, All, arith}
use Rattle.std.specs.List.{AllZip}
use Rattle.std.proofs.lemmas.Bool.{true≢false}
use Rattle.std.proofs.lemmas.List.Elements.{All-cons, All-nil}
use Rattle.gp_notify.specs.declared.fault.NotifyFault.{NotifyFault}
use Rattle.gp_notify.specs.declared.fault.NotifyFault.TheVariants as notify
use Rattle.gp_property.specs.PropertyForm.{PropertyForm}
use Rattle.gp_report.specs.declared.record.WindowBodyOf.{WindowBodyOf}
use Rattle.gp_report.specs.declared.record.WindowBodyOf.TheVariants.{TooLarge, Answers}
use Rattle.gp_report.specs.declared.record.WindowRecordOf.{WindowRecordOf}
use Rattle.gp_window.specs.RecordingForm.{RecordingForm}
use Rattle.gp_window.specs.WindowForm.{WindowForm, numbers_from, window_of}
use Rattle.gp_window.specs.Windows.{all_windows}
use Rattle.gp_analysis.specs.Answered.{AnswersBody, Evidence}
use Rattle.gp_analysis.specs.Recorded.{RecordEach, RecordsWindow}
use Rattle.gp_analysis.specs.RecordedLaws.{all_answered, own_numbers, shares_none}
use Rattle.gp_notified.specs.declared.paired.Paired.{Paired}
use Rattle.gp_notified.specs.declared.report.NotifyReport.{NotifyReport}
use Rattle.gp_notified.specs.Answered.{IsAnswered}
use Rattle.gp_notified.specs.Due.{left_out_by, signals_due, unpaired_by, unpaired_of}
use Rattle.gp_notified.specs.Question.{notified}
use Rattle.gp_notified.specs.Unasked.{AreRecordsOf, IsRecordOf, has_no_property}

module _ (properties : List PropertyForm) (count budget : ℕ) where
  -- a window that is left out for a wake has no record of a property
  told_where : (window : WindowForm) (evidence : Evidence) (number : ℕ) (due : Result WindowForm NotifyFault) (body : WindowBodyOf Paired)
      → AnswersBody (notified properties) window count evidence (left_out_by due) body → has_no_property body ≡ false → unpaired_by number due ≡ []
  told_where window evidence number (Ok paired) body answers none = refl
  told_where window evidence number (Err (notify.TooLarge events clauses)) body answers none = refl
  told_where window evidence number (Err notify.Memory) body answers none = refl
  told_where window evidence number (Err (notify.Unpaired wake)) (TooLarge events clauses) answers none = absurd answers.0
  told_where window evidence number (Err (notify.Unpaired wake)) (Answers []) answers none = absurd (true≢false none)
  told_where window evidence number (Err (notify.Unpaired wake)) (Answers (own ∷ others)) answers none = let no_record : own ∷ others ≡ [] = answers.0 in absurd (cc)

  record_of : (r : RecordingForm) (k : ℕ) (own : WindowRecordOf Paired) → (1 ≤ k) × (k ≤ r.manifest.epochs)
      → RecordsWindow (notified properties) count budget (window_of r k) own → IsRecordOf r k own
  record_of r k own within is = record {
    number = is.number;
    within = within;
    told = told_where (window_of r k) (record { budget = budget; shared = own.shared; workers = own.records }) k (signals_due (window_of r k)) own.body is.answered;
  }

  records_from : (r : RecordingForm) (first number : ℕ) (records : List (WindowRecordOf Paired)) → 1 ≤ first → first + number ≤ r.manifest.epochs + 1
      → RecordEach (notified properties) count budget (map (window_of r) (numbers_from first number)) records → AllZip (IsRecordOf r) (numbers_from first number) records
  records_from r first zero [] some few each = tt
  records_from r first zero (own ∷ records) some few each = absurd each
  records_from r first (suc number) [] some few each = absurd each
  records_from r first (suc number) (own ∷ records) some few each = (
    record_of r first own (some, omega (arith, few)) each.0,
    records_from r (first + 1) number records (omega (arith, some)) (omega (arith, few)) each.1,
  )

  pub are_records : (r : RecordingForm) (records : List (WindowRecordOf Paired)) → RecordEach (notified properties) count budget (all_windows r) records → AreRecordsOf r records
  are_records r records each = records_from r 1 r.manifest.epochs records (omega arith) (omega arith) each

  alone : (windows : List WindowForm) (records : List (WindowRecordOf Paired)) → RecordEach (notified properties) count budget windows records
      → All (λ (own : WindowRecordOf Paired). own.shared ≡ []) records
  alone [] [] each = All-nil (λ (own : WindowRecordOf Paired). own.shared ≡ [])
  alone [] (own ∷ records) each = absurd each
  alone (window ∷ windows) [] each = absurd each
  alone (window ∷ windows) (own ∷ records) each =
      All-cons (λ (one : WindowRecordOf Paired). one.shared ≡ []) own records (shares_none (notified properties) count budget (λ other. refl) window own each.0) (alone windows records each.1)

  pub report_answers : (r : RecordingForm) (report : NotifyReport) → report.budget ≡ budget → RecordEach (notified properties) count budget (all_windows r) report.windows
      → report.unpaired ≡ unpaired_of r → IsAnswered r properties count budget report
  report_answers r report same each unpaired = record {
    same_budget = same;
    numbered = own_numbers (notified properties) count budget r report.windows each;
    windows = all_answered (notified properties) count budget r report.windows each;
    alone = alone (all_windows r) report.windows each;
    unpaired = unpaired;
  }
