-- How far the windows of a recording are recorded, run by run.
use Rattle.std.proofs.Common.{◌≡◌, sym, ap, subst, ℕ, zero, suc, ◌+◌, ◌*◌, ◌<◌, ◌≤◌, List, [], ◌∷◌, ◌++◌, map, append_assoc, append-nil, arith, mul-le-mul_right, eq-or-lt_of_le, inl, inr, sum_by}
use Rattle.std.specs.List.{AllByRecursion}
use Rattle.std.proofs.lemmas.List.Sums.{sum_by-cons}
use Rattle.gp_report.specs.declared.record.WindowRecordOf.{WindowRecordOf}
use Rattle.gp_window.specs.RecordingForm.{RecordingForm}
use Rattle.gp_window.specs.WindowForm.{WindowForm, numbers_from, window_of}
use Rattle.gp_analysis.specs.declared.runs.Run.{Run}
use Rattle.gp_analysis.specs.Question.{QuestionForm}
use Rattle.gp_analysis.specs.Recorded.{CanBeAnalysed, CanBeAnswered}
use Rattle.gp_analysis.specs.declared.task.Telling.{Telling}
use Rattle.gp_analysis.specs.Runs.{IsRun, run_windows}
use Rattle.gp_analysis.specs.Telling.{RecordEachAs, RecordsAs}
use Rattle.gp_analysis.specs.Tickets.{asked_in, asked_total}

one_of_sum : (f : ℕ → ℕ) (first count k : ℕ) → first ≤ k → k < first + count → f k ≤ sum_by f (numbers_from first count)
one_of_sum f first zero k least most = absurd (omega arith)
one_of_sum f first (suc count) k least most =
    let split = sum_by-cons f first (numbers_from (first + 1) count) in
    elim (eq-or-lt_of_le least) [
      | inl same ↦ let here : f first ≡ f k = ap f same in omega (arith, split, here)
      | inr less ↦ let later = one_of_sum f (first + 1) count k (omega arith) (omega arith) in omega (arith, split, later)
    ]

module _ {Subject Shown : Type 0} (question : QuestionForm Subject Shown) (count budget : ℕ) where
  -- no window asks more than all do
  pub one_within : (r : RecordingForm) (k : ℕ) → 1 ≤ k → k ≤ r.manifest.epochs → CanBeAnalysed question r count budget → CanBeAnswered question budget (window_of r k)
  one_within r k first last can =
      let part : asked_in question r k ≤ asked_total question r = one_of_sum (asked_in question r) 1 r.manifest.epochs k first (omega arith) in
      let scaled : asked_in question r k * budget ≤ asked_total question r * budget = mul-le-mul_right budget part in
      record { least = can.least; limit = omega (arith, scaled, can.limit) }

  within_from : (r : RecordingForm) (first number : ℕ) → 1 ≤ first → first + number ≤ r.manifest.epochs + 1 → CanBeAnalysed question r count budget
      → AllByRecursion (CanBeAnswered question budget) (map (window_of r) (numbers_from first number))
  within_from r first zero least last can = tt
  within_from r first (suc number) least last can =
      (one_within r first least (omega (arith, last)) can, within_from r (first + 1) number (omega arith) (omega (arith, last)) can)

  -- no window of a run asks too much
  pub run_within : (r : RecordingForm) (run : Run) (windows : List WindowForm) → CanBeAnalysed question r count budget → IsRun r.manifest.epochs run → windows ≡ run_windows r run → AllByRecursion (CanBeAnswered question budget) windows
  run_within r run windows can is all = subst (AllByRecursion (CanBeAnswered question budget)) (sym all) (within_from r run.first run.count is.first is.last can)

module _ {Subject Shown : Type 0} (question : QuestionForm Subject Shown) (telling : Telling) (count budget : ℕ) where
  -- the windows of a run are recorded but for those that are left, none of which asks too much
  pub record AreRecorded (all left : List WindowForm) (records : List (WindowRecordOf Shown)) : Type 0 where
    pub within : AllByRecursion (CanBeAnswered question budget) left
    pub completes : (more : List (WindowRecordOf Shown)) → RecordEachAs question telling count budget left more → RecordEachAs question telling count budget all (records ++ more)

  -- at first none is
  pub none_recorded : (all : List WindowForm) (records : List (WindowRecordOf Shown)) → AllByRecursion (CanBeAnswered question budget) all → records ≡ [] → AreRecorded all all records
  none_recorded all records within none = subst (AreRecorded all all) (sym none) (record { within = within; completes = λ more each. each })

  -- the next one can be answered
  pub next_within : (all before left : List WindowForm) (window : WindowForm) (records : List (WindowRecordOf Shown)) → before ≡ window ∷ left → AreRecorded all before records → CanBeAnswered question budget window
  next_within all before left window records first are =
      let now : AreRecorded all (window ∷ left) records = subst (λ (ws : List WindowForm). AreRecorded all ws records) first are in now.within.0

  -- then it is
  pub one_recorded : (all before left : List WindowForm) (window : WindowForm) (records more : List (WindowRecordOf Shown)) (own : WindowRecordOf Shown) → before ≡ window ∷ left → AreRecorded all before records
      → RecordsAs question telling count budget window own → more ≡ records ++ own ∷ [] → AreRecorded all left more
  one_recorded all before left window records more own first are is pushed =
      let now : AreRecorded all (window ∷ left) records = subst (λ (ws : List WindowForm). AreRecorded all ws records) first are in
      record {
        within = now.within.1;
        completes = λ others each. subst (λ (ws : List (WindowRecordOf Shown)). RecordEachAs question telling count budget all (ws ++ others)) (sym pushed) (rw append_assoc (now.completes (own ∷ others) (is, each)));
      }

  -- until all are
  pub all_recorded : (all left : List WindowForm) (records : List (WindowRecordOf Shown)) → left ≡ [] → AreRecorded all left records → RecordEachAs question telling count budget all records
  all_recorded all left records none are =
      subst (RecordEachAs question telling count budget all) (append-nil records) (are.completes [] (subst (λ (ws : List WindowForm). RecordEachAs question telling count budget ws []) (sym none) tt))
