-- How far the subjects of a window are recorded, with the steps of certificates made into others.
use Rattle.std.proofs.Common.{◌≡◌, ◌∙◌, refl, sym, ap, subst, ℕ, List, [], ◌∷◌, ◌++◌, length, map, flat_map, Option, append-nil, append_assoc, arith}
use Rattle.std.proofs.lemmas.List.{map-append}
use Rattle.std.proofs.lemmas.List.Concat.{flat_map-append}
use Rattle.gp_certificate.specs.declared.step.Step.{Step}
use Rattle.gp_clause.specs.declared.problem.Query.{Query}
use Rattle.gp_derivation.specs.declared.record.WorkerRecord.{WorkerRecord}
use Rattle.gp_report.specs.declared.record.EntryOf.{EntryOf}
use Rattle.gp_report.specs.declared.record.PropertyRecordOf.{PropertyRecordOf}
use Rattle.gp_report.specs.Entries.{entries_among, entries_in}
use Rattle.gp_sharing.specs.Compacted.{property_by}
use Rattle.gp_window.specs.declared.schedule.EventId.{EventId}
use Rattle.gp_window.specs.WindowForm.{WindowForm}
use Rattle.gp_workers.specs.declared.work.WorkAnswer.{WorkAnswer}
use Rattle.gp_workers.specs.Work.{AnswerEach}
use Rattle.gp_analysis.specs.declared.listing.Asked.{Asked}
use Rattle.gp_analysis.specs.Answered.{known_of}
use Rattle.gp_analysis.specs.Certificates.{certificates_all, certificates_among, certificates_given}
use Rattle.gp_analysis.specs.Listed.{listed_from, queries_from}
use Rattle.gp_analysis.specs.Question.{QuestionForm}
use Rattle.gp_analysis.specs.Recording.{CanRecord, RecordsListed}
use Rattle.gp_analysis.specs.Telling.{TellsSubjects}
use Rattle.gp_analysis.proofs.Answering.{IsAnswering, all_done, at_first, first_can, one_more}
use Rattle.gp_analysis.proofs.Evidence.{CanAnswer}
use Rattle.gp_analysis.proofs.Untold.{listed_untold}

-- the certificates of one property more
one_among : {Shown : Type 0} (told : List (PropertyRecordOf Shown)) (one : PropertyRecordOf Shown)
    → certificates_among (entries_among (told ++ one ∷ [])) ≡ certificates_among (entries_among told) ++ certificates_among (entries_in one.body)
one_among {Shown} told one =
    ap (λ (entries : List (EntryOf Shown)). certificates_among entries)
    (flat_map-append (λ (property : PropertyRecordOf Shown). entries_in property.body) told (one ∷ []) ∙ ap (λ (entries : List (EntryOf Shown)). entries_among told ++ entries) (append-nil (entries_in one.body)))
    ∙ flat_map-append (λ (entry : EntryOf Shown). certificates_given entry.answer) (entries_among told) (entries_in one.body)

module _ {Subject Shown : Type 0} (question : QuestionForm Subject Shown) (lists : WindowForm → Subject → List EventId → Type 0) (window : WindowForm) (budget : ℕ) (workers : List WorkerRecord) (into : List Step → List Step) where
  abbrev clauses : ℕ
  clauses = length (question.problem window).clauses

  abbrev gained : ℕ
  gained = length (question.shared window)

  -- some subjects are recorded; with the steps as they are they are answered, and their certificates and those that are left are all
  pub record AreTelling (all : List (List Step)) (rest : List Subject) (listed : List (Option (List (Asked Shown)))) (answers : List WorkAnswer) (own : List (PropertyRecordOf Shown)) : Type 0 where
    pub told : List (PropertyRecordOf Shown)
    pub answering : IsAnswering question lists window budget workers rest listed answers told
    pub made : own ≡ map (property_by into) told
    pub certificates : certificates_among (entries_among told) ++ certificates_all clauses gained workers listed answers ≡ all

  -- at first none is
  pub none_told : CanAnswer question lists window → (left : List Subject) (first listed : List (Option (List (Asked Shown)))) (start answers : List WorkAnswer) (own : List (PropertyRecordOf Shown)) (queries : List Query)
      → left ≡ question.subjects → first ≡ listed → listed ≡ listed_from question window 0 question.subjects → queries ≡ queries_from question window 0 question.subjects → start ≡ answers
      → AnswerEach (question.problem window) budget workers 0 queries answers → own ≡ [] → AreTelling (certificates_all clauses gained workers listed answers) left first start own
  none_told can left first listed start answers own queries all same is are begins each none = record {
    told = [];
    answering = at_first question lists window budget can workers left first start [] queries all (same ∙ is) are (subst (AnswerEach (question.problem window) budget workers 0 queries) (sym begins) each) refl;
    made = none;
    certificates = λ i. certificates_all clauses gained workers (same i) (begins i);
  }

  -- the next one can be recorded
  pub next_can : CanAnswer question lists window → (all : List (List Step)) (subject : Subject) (rest left : List Subject) (asked : Option (List (Asked Shown))) (others listed : List (Option (List (Asked Shown)))) (answers : List WorkAnswer) (own : List (PropertyRecordOf Shown))
      → left ≡ subject ∷ rest → listed ≡ asked ∷ others → AreTelling all left listed answers own → CanRecord question lists workers window subject asked answers
  next_can can all subject rest left asked others listed answers own is listed_is h =
      first_can question lists window budget can workers subject rest left asked others listed answers h.told is listed_is h.answering

  -- and then it is
  pub one_told : CanAnswer question lists window → (all : List (List Step)) (subject : Subject) (rest left : List Subject) (asked : Option (List (Asked Shown))) (others listed : List (Option (List (Asked Shown)))) (answers after : List WorkAnswer)
      (own more : List (PropertyRecordOf Shown)) (one : PropertyRecordOf Shown)
      → left ≡ subject ∷ rest → listed ≡ asked ∷ others → AreTelling all left listed answers own → one.name ≡ question.name subject
      → RecordsListed question workers into window subject asked answers one.body after → more ≡ own ++ one ∷ [] → AreTelling all rest others after more
  one_told can all subject rest left asked others listed answers after own more one is listed_is h name records pushed =
      let was = listed_untold question workers into window subject asked answers one.body after records in
      let plainly : PropertyRecordOf Shown = record { name = one.name; body = was.0 } in
      let done = h.told in
      let before = certificates_among (entries_among done) in
      let joined : certificates_among (entries_among (done ++ plainly ∷ [])) ++ certificates_all clauses gained workers others after
      ≡ before ++ certificates_all clauses gained workers (asked ∷ others) answers =
      ap (λ (cs : List (List Step)). cs ++ certificates_all clauses gained workers others after) (one_among done plainly)
      ∙ append_assoc before (certificates_among (entries_in was.0)) (certificates_all clauses gained workers others after)
      ∙ (λ i. before ++ (was.3 i ++ certificates_all clauses gained workers others (was.4 i))) in
      let all_listed : before ++ certificates_all clauses gained workers (asked ∷ others) answers ≡ all =
      ap (λ (fs : List (Option (List (Asked Shown)))). before ++ certificates_all clauses gained workers fs answers) (sym listed_is) ∙ h.certificates in
      record {
        told = done ++ plainly ∷ [];
        answering = one_more question lists window budget can workers subject rest left asked others listed answers after done (done ++ plainly ∷ []) plainly is listed_is h.answering name was.1 refl;
        made = pushed ∙ (λ i. h.made i ++ record { name = one.name; body = was.2 i } ∷ []) ∙ sym (map-append (property_by into) done (plainly ∷ []));
        certificates = joined ∙ all_listed;
      }

  none_listed : (left : List Subject) (number : ℕ) (listed : List (Option (List (Asked Shown)))) → length left ≡ 0 → listed ≡ listed_from question window number left → listed ≡ []
  none_listed [] number listed none is = is
  none_listed (subject ∷ left) number listed none is = absurd (omega (arith, none))

  -- until all are
  pub all_told : (all : List (List Step)) (left : List Subject) (listed : List (Option (List (Asked Shown)))) (answers : List WorkAnswer) (own : List (PropertyRecordOf Shown)) → length left ≡ 0
      → AreTelling all left listed answers own → TellsSubjects question window (known_of question window budget workers) into all own
  all_told all left listed answers own none h =
      let ended : listed ≡ [] = none_listed left h.answering.number listed none h.answering.listed_is in
      record {
        told = h.told;
        answers = all_done question lists window budget workers left listed answers h.told none h.answering;
        certificates = sym (append-nil (certificates_among (entries_among h.told)))
            ∙ ap (λ (fs : List (Option (List (Asked Shown)))). certificates_among (entries_among h.told) ++ certificates_all clauses gained workers fs answers) (sym ended)
            ∙ h.certificates;
        made = h.made;
      }
