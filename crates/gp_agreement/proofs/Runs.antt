-- What two runs keep of one recording and its properties agrees.
use Rattle.std.proofs.Common.{◌≡◌, sym, ap, subst, ℕ, List, inl, inr}
use Rattle.std.specs.Prelude.{◌⊎◌}
use Rattle.gp_property.specs.PropertyForm.{PropertyForm}
use Rattle.gp_report.specs.ReportForm.{ReportForm}
use Rattle.gp_window.specs.RecordingForm.{RecordingForm}
use Rattle.gp_patterns.specs.Answered.{IsAnswered}
use Rattle.gp_patterns.specs.Question.{PatternsAnswered, patterns}
use Rattle.gp_resumed.specs.Answered.{IsAnswered as IsResumed}
use Rattle.gp_resumed.specs.Question.{resumed}
use Rattle.gp_deadlocks.specs.Question.{IsAnswered as IsStuckAnswered}
use Rattle.gp_notified.specs.Answered.{IsAnswered as IsNotified}
use Rattle.gp_linked.specs.Report.{AreAnswered}
use Rattle.gp_predict.specs.Tasks.{Analysis, Compacted, Deadlocks, Expected, Linking, Means, Notifying, Resumption, Text, Verdict}
use Rattle.gp_predict.specs.Told.{Analysed, Kept, Linked, Nothing, Notified, Stuck, Told}
use Rattle.gp_agreement.specs.Agreement.{Agree}
use Rattle.gp_agreement.specs.Links.{LinkReportsAgree}
use Rattle.gp_agreement.specs.Questions.{QuestionsAreAlike}
use Rattle.gp_agreement.specs.Runs.{IsDueOf, KeptAgree, RunsAgree}
use Rattle.gp_agreement.specs.Tasks.{TasksAgree}
use Rattle.gp_agreement.proofs.Agreement.{alike_agree}
use Rattle.gp_agreement.proofs.Questions.{alike_back}

module _ (recording : RecordingForm) (properties : List PropertyForm) where
  -- a report answers the properties, by itself or from an old report
  abbrev IsAnalysed : ReportForm → Type 0
  IsAnalysed report =
      ((count : ℕ) × (budget : ℕ) × IsAnswered recording properties count budget report)
      ⊎ ((old : ReportForm) × (count : ℕ) × (budget : ℕ) × IsResumed recording properties old count budget report)

  -- what is kept is such a report, or one of links, of deadlocks, or with signals
  abbrev IsKept : Kept → Type 0
  IsKept Nothing = Unit {0}
  IsKept (Analysed report) = IsAnalysed report
  IsKept (Linked report) = (budget : ℕ) × AreAnswered recording budget report
  IsKept (Stuck report) = (count : ℕ) × (budget : ℕ) × IsStuckAnswered recording count budget report
  IsKept (Notified report) = (count : ℕ) × (budget : ℕ) × IsNotified recording properties count budget report

  moved : (kept : Kept) (told : Told) → told.kept ≡ kept → IsKept kept → IsKept told.kept
  moved kept told same is = subst IsKept (sym same) is

  kept_of : (expected : Expected) (told : Told) → IsDueOf recording properties expected → Means expected told → IsKept told.kept
  kept_of (Text reply) told due means = moved Nothing told (ap (λ (own : Told). own.kept) means) tt
  kept_of (Verdict submission) told due means = moved Nothing told (ap (λ (own : Told). own.kept) means.2) tt
  kept_of (Compacted submission) told due means = moved Nothing told (ap (λ (own : Told). own.kept) means) tt
  kept_of (Analysis analysis) told due means =
      let report = means.0 in
      let is = subst (λ (r : RecordingForm). IsAnswered r properties analysis.workers analysis.budget report) due.0
      (subst (λ (ps : List PropertyForm). IsAnswered analysis.recording ps analysis.workers analysis.budget report) due.1 means.1.instances) in
      moved (Analysed report) told (ap (λ (own : Told). own.kept) means.2) (inl (analysis.workers, analysis.budget, is))
  kept_of (Linking linking) told due means =
      let report = means.0 in
      moved (Linked report) told (ap (λ (own : Told). own.kept) means.2)
      (linking.budget, subst (λ (r : RecordingForm). AreAnswered r linking.budget report) due means.1)
  kept_of (Deadlocks analysis) told due means =
      let report = means.0 in
      moved (Stuck report) told (ap (λ (own : Told). own.kept) means.2)
      (analysis.workers, analysis.budget, subst (λ (r : RecordingForm). IsStuckAnswered r analysis.workers analysis.budget report) due means.1.cycles)
  kept_of (Notifying analysis) told due means =
      let report = means.0 in
      let is = subst (λ (r : RecordingForm). IsNotified r properties analysis.workers analysis.budget report) due.0
      (subst (λ (ps : List PropertyForm). IsNotified analysis.recording ps analysis.workers analysis.budget report) due.1 means.1) in
      moved (Notified report) told (ap (λ (own : Told). own.kept) means.2) (analysis.workers, analysis.budget, is)
  kept_of (Resumption resumption) told due means =
      let report = means.0 in
      let own = resumption.submission in
      let is = subst (λ (r : RecordingForm). IsResumed r properties own.report resumption.workers resumption.budget report) due.0
      (subst (λ (ps : List PropertyForm). IsResumed own.listing.recording ps own.report resumption.workers resumption.budget report) due.1 means.1.instances) in
      moved (Analysed report) told (ap (λ (own : Told). own.kept) means.2) (inr (own.report, resumption.workers, resumption.budget, is))

  module _ (alike : QuestionsAreAlike) (answered : PatternsAnswered) (tasks : TasksAgree) (links : LinkReportsAgree) where
    analysed_agree : (one other : ReportForm) → IsAnalysed one → IsAnalysed other → Agree one.windows other.windows
    analysed_agree one other (inl a) (inl b) = tasks.analysed recording properties a.0 b.0 a.1 b.1 one other a.2 b.2
    analysed_agree one other (inl a) (inr b) = tasks.both recording properties b.0 a.0 b.1 a.1 b.2 one other a.2 b.3
    analysed_agree one other (inr a) (inl b) =
        alike_agree (resumed properties a.0) (patterns properties) (alike_back (patterns properties) (resumed properties a.0) (alike.kept properties a.0))
        recording a.1 b.0 a.2 b.1 one.windows other.windows a.3.windows ((answered recording properties b.0 b.1 other).0 b.2).1
    analysed_agree one other (inr a) (inr b) = tasks.kept recording properties a.0 b.0 a.1 b.1 a.2 b.2 one other a.3 b.3

    kept_agree : (one other : Kept) → IsKept one → IsKept other → KeptAgree one other
    kept_agree (Analysed one) (Analysed other) a b = analysed_agree one other a b
    kept_agree (Linked one) (Linked other) a b = links recording a.0 b.0 one other a.1 b.1
    kept_agree (Stuck one) (Stuck other) a b = tasks.stuck recording a.0 b.0 a.1 b.1 one other a.2 b.2
    kept_agree (Notified one) (Notified other) a b = tasks.signalled recording properties a.0 b.0 a.1 b.1 one other a.2 b.2
    kept_agree Nothing other a b = tt
    kept_agree (Analysed one) Nothing a b = tt
    kept_agree (Analysed one) (Linked other) a b = tt
    kept_agree (Analysed one) (Stuck other) a b = tt
    kept_agree (Analysed one) (Notified other) a b = tt
    kept_agree (Linked one) Nothing a b = tt
    kept_agree (Linked one) (Analysed other) a b = tt
    kept_agree (Linked one) (Stuck other) a b = tt
    kept_agree (Linked one) (Notified other) a b = tt
    kept_agree (Stuck one) Nothing a b = tt
    kept_agree (Stuck one) (Analysed other) a b = tt
    kept_agree (Stuck one) (Linked other) a b = tt
    kept_agree (Stuck one) (Notified other) a b = tt
    kept_agree (Notified one) Nothing a b = tt
    kept_agree (Notified one) (Analysed other) a b = tt
    kept_agree (Notified one) (Linked other) a b = tt
    kept_agree (Notified one) (Stuck other) a b = tt

pub runs_agreed : QuestionsAreAlike → PatternsAnswered → TasksAgree → LinkReportsAgree → RunsAgree
runs_agreed alike answered tasks links recording properties one other told again due more means also =
    kept_agree recording properties alike answered tasks links told.kept again.kept (kept_of recording properties one told due means) (kept_of recording properties other again more also)
