-- Laws: what is recorded of all windows of a recording answers it, and is a report.
use Rattle.std.specs.Prelude.{ℕ, ◌≡◌, ◌+◌, ◌≤◌, ◌⊎◌, List, [], ◌∷◌, Option, None, Some, length, map, All}
use Rattle.std.specs.List.{AllZip}
use Rattle.std.proofs.Common.{refl, sym, ap, ◌∙◌, zero, suc}
use Rattle.std.proofs.lemmas.List.{length-map}
use Rattle.std.proofs.lemmas.List.Elements.{All-cons, All-nil}
use Rattle.gp_certificate.specs.declared.step.Step.{Step}
use Rattle.gp_report.specs.declared.record.WindowRecordOf.{WindowRecordOf}
use Rattle.gp_report.specs.Records.{WindowRecord}
use Rattle.gp_report.specs.Report.{IsReport, IsWindowRecord}
use Rattle.gp_window.specs.declared.schedule.Schedule.{Schedule}
use Rattle.gp_window.specs.RecordingForm.{RecordingForm}
use Rattle.gp_window.specs.WindowForm.{WindowForm, numbers_from, window_of}
use Rattle.gp_window.specs.Windows.{all_windows}
use Rattle.gp_analysis.specs.declared.question.LeftOut.{LeftOut}
use Rattle.gp_analysis.specs.Answered.{AnswersWindow, IsAnswered}
use Rattle.gp_analysis.specs.Question.{QuestionForm}
use Rattle.gp_analysis.specs.Recorded.{RecordEach, RecordsWindow, shared_where}

-- a question shares no steps in any window
abbrev pub SharesNone : {Subject Shown : Type 0} → QuestionForm Subject Shown → Type 0
SharesNone question = (window : WindowForm) → question.shared window ≡ []

none_where : (left : Option LeftOut) (shared : List Step) → shared ≡ [] → shared_where left shared ≡ []
none_where None shared none = none
none_where (Some why) shared none = refl

count_numbers : (first number : ℕ) → length (numbers_from first number) ≡ number
count_numbers first zero = refl
count_numbers first (suc number) = ap suc (count_numbers (first + 1) number)

module _ {Subject Shown : Type 0} (question : QuestionForm Subject Shown) (count budget : ℕ) where
  -- then nor has a record of a window
  pub shares_none : SharesNone question → (window : WindowForm) (own : WindowRecordOf Shown) → RecordsWindow question count budget window own → own.shared ≡ []
  shares_none none window own is = is.shared ∙ none_where (question.left_out window) (question.shared window) (none window)

  numbers_where : (r : RecordingForm) (numbers : List ℕ) (records : List (WindowRecordOf Shown)) → RecordEach question count budget (map (window_of r) numbers) records
      → map (λ (own : WindowRecordOf Shown). own.number) records ≡ numbers
  numbers_where r [] [] each = refl
  numbers_where r [] (own ∷ records) each = absurd each
  numbers_where r (number ∷ numbers) [] each = absurd each
  numbers_where r (number ∷ numbers) (own ∷ records) each =
      ap (λ (n : ℕ). n ∷ map (λ (other : WindowRecordOf Shown). other.number) records) each.0.number ∙ ap (λ (ns : List ℕ). number ∷ ns) (numbers_where r numbers records each.1)

  -- the records have the numbers of the windows, in order
  pub own_numbers : (r : RecordingForm) (records : List (WindowRecordOf Shown)) → RecordEach question count budget (all_windows r) records
      → map (λ (own : WindowRecordOf Shown). own.number) records ≡ numbers_from 1 (length records)
  own_numbers r records each =
      let numbers = numbers_where r (numbers_from 1 r.manifest.epochs) records each in
      let size : length records ≡ r.manifest.epochs = sym (length-map records (λ (own : WindowRecordOf Shown). own.number)) ∙ ap length numbers ∙ count_numbers 1 r.manifest.epochs in
      numbers ∙ ap (numbers_from 1) (sym size)

  each_answered : (windows : List WindowForm) (records : List (WindowRecordOf Shown)) → RecordEach question count budget windows records → AllZip (AnswersWindow question count budget) windows records
  each_answered [] [] each = tt
  each_answered [] (own ∷ records) each = absurd each
  each_answered (window ∷ windows) [] each = absurd each
  each_answered (window ∷ windows) (own ∷ records) each = (each.0.answered, each_answered windows records each.1)

  -- the records answer the recording
  pub all_answered : (r : RecordingForm) (records : List (WindowRecordOf Shown)) → RecordEach question count budget (all_windows r) records → IsAnswered question r count budget records
  all_answered r records each = each_answered (all_windows r) records each

  fit_one : (format : ℕ) → (format ≡ 1 → SharesNone question) → (window : WindowForm) (own : WindowRecordOf Shown) → RecordsWindow question count budget window own → IsWindowRecord format own
  fit_one format first window own is = record {
    shared = is.fits.shared;
    first_format = λ one. shares_none (first one) window own is;
    body = is.fits.body;
  }

  fit_each : (format : ℕ) → (format ≡ 1 → SharesNone question) → (windows : List WindowForm) (records : List (WindowRecordOf Shown)) → RecordEach question count budget windows records
      → All (IsWindowRecord format) records
  fit_each format first [] [] each = All-nil (IsWindowRecord format)
  fit_each format first [] (own ∷ records) each = absurd each
  fit_each format first (window ∷ windows) [] each = absurd each
  fit_each format first (window ∷ windows) (own ∷ records) each =
      All-cons (IsWindowRecord format) own records (fit_one format first window own each.0) (fit_each format first windows records each.1)

-- where a schedule shows what is asked, the records of all windows are a report: of format 2, and of format 1 too where no steps
-- are shared
pub is_report : {Subject : Type 0} (question : QuestionForm Subject Schedule) (count budget format : ℕ) (r : RecordingForm) (records : List WindowRecord) → (format ≡ 1) ⊎ (format ≡ 2)
    → (format ≡ 1 → SharesNone question) → 1 ≤ budget → budget ≤ 1000000 → RecordEach question count budget (all_windows r) records
    → IsReport (record { format = format; budget = budget; windows = records })
is_report question count budget format r records one_of first some few each = record {
  format = one_of;
  budget_some = some;
  budget_few = few;
  numbered = own_numbers question count budget r records each;
  windows = fit_each question count budget format first (all_windows r) records each;
}
