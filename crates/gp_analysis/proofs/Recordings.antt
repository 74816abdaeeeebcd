-- How far the asks of a subject are recorded.
use Rattle.std.proofs.Common.{◌≡◌, ◌∙◌, sym, subst, ap, refl, ℕ, length, List, [], ◌∷◌, ◌++◌, append-nil, append_assoc}
use Rattle.gp_certificate.specs.declared.certificate.Certificate.{Certificate}
use Rattle.gp_certificate.specs.declared.step.Step.{Step}
use Rattle.gp_derivation.specs.declared.record.WorkerRecord.{WorkerRecord}
use Rattle.gp_raise.specs.Raised.{raised}
use Rattle.gp_report.specs.declared.record.AnswerOf.TheVariants.{Impossible}
use Rattle.gp_report.specs.declared.record.EntryOf.{EntryOf}
use Rattle.gp_window.specs.declared.schedule.EventId.{EventId}
use Rattle.gp_window.specs.WindowForm.{WindowForm}
use Rattle.gp_workers.specs.declared.work.WorkAnswer.{WorkAnswer}
use Rattle.gp_workers.specs.declared.work.WorkAnswer.TheVariants.{Refuted}
use Rattle.gp_workers.specs.Work.{certificate_by}
use Rattle.gp_analysis.specs.declared.listing.Asked.{Asked}
use Rattle.gp_analysis.specs.Question.{QuestionForm}
use Rattle.gp_analysis.specs.Recording.{CanRecordAsk, CanRecordEach, RecordsAnswer, RecordsAsk, RecordsEach, left_after, told_by}

-- a certificate that is told over the steps that are shared records the refutation that it is of
pub told_over : {Subject Shown : Type 0} (question : QuestionForm Subject Shown) (workers : List WorkerRecord) (made : List Step → List Step) (window : WindowForm) (subject : Subject) (ids : List EventId)
    (answer : WorkAnswer) (worker : ℕ) (last : Step) (certificate own : Certificate) (clauses gained : ℕ)
    → answer ≡ Refuted worker last → clauses ≡ length (question.problem window).clauses → gained ≡ length (question.shared window)
    → certificate ≡ raised clauses gained (certificate_by clauses workers worker last) → own ≡ told_by made certificate
    → RecordsAnswer question workers made window subject ids answer (Impossible own)
told_over question workers made window subject ids answer worker last certificate own clauses gained is sizes more raises told =
    subst (λ (a : WorkAnswer). RecordsAnswer question workers made window subject ids a (Impossible own)) (sym is)
    (told ∙ ap (told_by made) raises ∙ (λ i. told_by made (raised (sizes i) (more i) (certificate_by (sizes i) workers worker last))))

module _ {Subject Shown : Type 0} (question : QuestionForm Subject Shown) (lists : WindowForm → Subject → List EventId → Type 0) (workers : List WorkerRecord) (made : List Step → List Step) (window : WindowForm) (subject : Subject) where
  -- some entries are made, and with those that record the rest by the answers that are left they record all
  pub record IsUnderWay (all rest : List (Asked Shown)) (before : List WorkAnswer) (entries : List (EntryOf Shown)) (answers : List WorkAnswer) : Type 0 where
    pub completes : (more : List (EntryOf Shown)) (left : List WorkAnswer) → RecordsEach question workers made window subject rest answers more left
        → RecordsEach question workers made window subject all before (entries ++ more) left
    pub can : CanRecordEach question lists workers window subject rest answers

  -- at first
  pub at_start : (all : List (Asked Shown)) (before : List WorkAnswer) → CanRecordEach question lists workers window subject all before → IsUnderWay all all before [] before
  at_start all before can = record { completes = λ more left h. h; can = can }

  -- the next one can be recorded
  pub first_can : (all rest old : List (Asked Shown)) (asked : Asked Shown) (before : List WorkAnswer) (entries : List (EntryOf Shown)) (answers : List WorkAnswer)
      → old ≡ asked ∷ rest → IsUnderWay all old before entries answers
      → lists window subject asked.ask.events × CanRecordAsk question lists workers window subject asked.ask.events asked.given answers
  first_can all rest old asked before entries answers is h =
      let at : IsUnderWay all (asked ∷ rest) before entries answers = subst (λ xs. IsUnderWay all xs before entries answers) is h in
      (at.can.0, at.can.1)

  -- and then it is
  pub one_recorded : (all rest old : List (Asked Shown)) (asked : Asked Shown) (before : List WorkAnswer) (entries others : List (EntryOf Shown)) (entry : EntryOf Shown) (answers left : List WorkAnswer)
      → old ≡ asked ∷ rest → IsUnderWay all old before entries answers → entry.events ≡ asked.ask.events
      → RecordsAsk question workers made window subject asked.ask.events asked.given answers entry.answer → left ≡ left_after asked.given answers
      → others ≡ entries ++ entry ∷ [] → IsUnderWay all rest before others left
  one_recorded all rest old asked before entries others entry answers left is h events records left_is others_is =
      let at : IsUnderWay all (asked ∷ rest) before entries answers = subst (λ xs. IsUnderWay all xs before entries answers) is h in
      record {
        completes = λ more end later.
            subst (λ xs. RecordsEach question workers made window subject all before xs end) (sym (append_assoc entries (entry ∷ []) more) ∙ ap (λ xs. xs ++ more) (sym others_is))
            (at.completes (entry ∷ more) end (events, records, subst (λ xs. RecordsEach question workers made window subject rest xs more end) left_is later));
        can = subst (CanRecordEach question lists workers window subject rest) (sym left_is) at.can.2;
      }

  -- until all are
  pub all_recorded : (all old : List (Asked Shown)) (before : List WorkAnswer) (entries : List (EntryOf Shown)) (answers : List WorkAnswer)
      → old ≡ [] → IsUnderWay all old before entries answers → RecordsEach question workers made window subject all before entries answers
  all_recorded all old before entries answers is h =
      let at : IsUnderWay all [] before entries answers = subst (λ xs. IsUnderWay all xs before entries answers) is h in
      subst (λ xs. RecordsEach question workers made window subject all before xs answers) (append-nil entries) (at.completes [] answers refl)
