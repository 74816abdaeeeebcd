-- What is recorded of an ask by an answer to its query has the evidence of the answer.
use Rattle.std.proofs.Common.{◌≡◌, ◌∙◌, sym, subst, refl, ℕ, ◌+◌, ◌-◌, List, [], ◌∷◌, ◌++◌, length, map, slice_get, Option, Some, None, IsSomeAnd, Result, Ok, Err, add-zero, add_assoc, append_assoc}
use Rattle.std.specs.List.{AllByRecursion}
use Rattle.gp_certificate.specs.declared.certificate.Certificate.{Certificate}
use Rattle.gp_certificate.specs.declared.step.Step.{Step}
use Rattle.gp_certificate.specs.Certificate.{RefutedMeans, Refutes}
use Rattle.gp_certificate.specs.Shared.{SharesNothing}
use Rattle.gp_clause.specs.declared.problem.Problem.{Problem}
use Rattle.gp_clause.specs.declared.problem.Query.{Query}
use Rattle.gp_derivation.specs.declared.record.WorkerRecord.{WorkerRecord}
use Rattle.gp_derivation.specs.Cones.{RefutesByCone, cone_of}
use Rattle.gp_derivation.specs.Numbering.{CanBeNumbered}
use Rattle.gp_instance.specs.declared.instance.Instance.{Instance}
use Rattle.gp_instance.specs.declared.instance.InstancesFault.{InstancesFault}
use Rattle.gp_instance.specs.declared.instance.InstancesFault.TheVariants.{Memory, TooMany}
use Rattle.gp_instance.specs.ListedLaws.{ListsEach}
use Rattle.gp_raise.specs.Raised.{RaisedRefutes, raised}
use Rattle.gp_report.specs.declared.record.AnswerOf.{AnswerOf}
use Rattle.gp_report.specs.declared.record.AnswerOf.TheVariants.{Found, Impossible, Undecided}
use Rattle.gp_report.specs.declared.record.EntryOf.{EntryOf}
use Rattle.gp_report.specs.declared.record.PropertyBodyOf.{PropertyBodyOf}
use Rattle.gp_report.specs.declared.record.PropertyBodyOf.TheVariants as body
use Rattle.gp_sharing.specs.Compacted.{answer_by}
use Rattle.gp_window.specs.declared.schedule.EventId.{EventId}
use Rattle.gp_window.specs.WindowForm.{IsWindow, WindowForm}
use Rattle.gp_workers.specs.declared.work.WorkAnswer.{WorkAnswer}
use Rattle.gp_workers.specs.declared.work.WorkAnswer.TheVariants.{Model, Refuted, Spent}
use Rattle.gp_workers.specs.Work.{AnswerEach, CanBeCertified, IsRefutedBy, IsSpentBy, certificate_by, log_in}
use Rattle.gp_workers.specs.Work.{IsAnswerTo as IsWorkAnswer}
use Rattle.gp_analysis.specs.Answered.{AnswersEach, AnswersListed, IsAnswer, IsAnswerTo, known_of}
use Rattle.gp_analysis.specs.Listed.{asked_of, listed_of, queries_each, queries_of, query_for}
use Rattle.gp_analysis.specs.Question.{Holds, IsLawful, IsRefuted, QuestionForm}
use Rattle.gp_analysis.specs.Recording.{CanRecord, CanRecordAsk, CanRecordEach, IsSound, RecordsAnswer, RecordsAsk, RecordsEach, RecordsListed, left_after}
use Rattle.gp_analysis.specs.Tickets.{tickets_in, tickets_listed, tickets_of}

-- a window of a recording that is not left out, the laws of the question, and those of certificates
pub record CanAnswer {Subject Shown : Type 0} (question : QuestionForm Subject Shown) (lists : WindowForm → Subject → List EventId → Type 0) (window : WindowForm) : Type 0 where
  pub lawful : IsLawful question lists
  pub formed : IsWindow window
  pub fits : question.left_out window ≡ None
  pub refuted : RefutedMeans
  pub alone : SharesNothing
  pub raises : RaisedRefutes

-- the certificate of what refutes a query can be made
pub certified : (problem : Problem) (query : Query) (workers : List WorkerRecord) (worker : ℕ) (last : Step) → IsRefutedBy problem query workers worker last → CanBeCertified (length problem.clauses) workers worker last
certified problem query workers worker last is = record { counts = is.counts; own = by (slice_get workers (worker - 1)) is.own }
  where
    by : (own : Option WorkerRecord) → IsSomeAnd own (λ one. RefutesByCone problem query one.log last) → IsSomeAnd own (λ one. CanBeNumbered (length problem.clauses) one.log last)
    by None refutes = absurd refutes
    by (Some one) refutes = refutes.numbered

-- and refutes it
certificate_refutes : (problem : Problem) (query : Query) (workers : List WorkerRecord) (worker : ℕ) (last : Step) → IsRefutedBy problem query workers worker last
    → Refutes problem query (certificate_by (length problem.clauses) workers worker last)
certificate_refutes problem query workers worker last is = by (slice_get workers (worker - 1)) is.own
  where
    by : (own : Option WorkerRecord) → IsSomeAnd own (λ one. RefutesByCone problem query one.log last) → Refutes problem query (cone_of (length problem.clauses) (log_in own) last)
    by None refutes = absurd refutes
    by (Some one) refutes = refutes.refutes

is_sound : (problem : Problem) (query : Query) (budget : ℕ) (workers : List WorkerRecord) (ticket : ℕ) (answer : WorkAnswer) → IsWorkAnswer problem query budget workers ticket answer → IsSound problem query workers answer
is_sound problem query budget workers ticket (Model valuation) is = is
is_sound problem query budget workers ticket (Refuted worker last) is = certified problem query workers worker last is
is_sound problem query budget workers ticket (Spent worker from to) is = tt

-- steps as they are
abbrev pub plain : List Step → List Step
plain steps = steps

-- what is told with its steps as they are stays
pub same_answer : {Shown : Type 0} (answer : AnswerOf Shown) → answer_by plain answer ≡ answer
same_answer (Found shown) = refl
same_answer (Impossible certificate) = refl
same_answer (Undecided worker from to) = refl

spent_is : (problem : Problem) (query : Query) (budget ticket : ℕ) (workers : List WorkerRecord) (worker from to by begins ends : ℕ) → by ≡ worker → begins ≡ from → ends ≡ to
    → IsSpentBy problem query budget workers ticket worker from to → IsSpentBy problem query budget workers ticket by begins ends
spent_is problem query budget ticket workers worker from to by begins ends same first last spent =
    let one : IsSpentBy problem query budget workers ticket by from to = subst (λ n. IsSpentBy problem query budget workers ticket n from to) (sym same) spent in
    let two : IsSpentBy problem query budget workers ticket by begins to = subst (λ n. IsSpentBy problem query budget workers ticket by n to) (sym first) one in
    subst (λ n. IsSpentBy problem query budget workers ticket by begins n) (sym last) two

module _ {Subject Shown : Type 0} (question : QuestionForm Subject Shown) (lists : WindowForm → Subject → List EventId → Type 0) (window : WindowForm) (can : CanAnswer question lists window) (budget : ℕ) (workers : List WorkerRecord) (subject : Subject) where
  -- a certificate over the steps that are shared
  abbrev over : Certificate → Certificate
  over certificate = raised (length (question.problem window).clauses) (length (question.shared window)) certificate

  -- what refutes the query of an ask shows that nothing shows it, and refutes it over the steps that are shared
  refuted_is : (ids : List EventId) (certificate : Certificate) → lists window subject ids → Refutes (question.problem window) (question.query window subject ids) certificate
      → IsRefuted question window subject ids (question.shared window) (over certificate)
  refuted_is ids certificate listed refutes =
      let ask = can.lawful.ask window subject ids listed in
      let problem = can.lawful.problem window can.fits in
      record {
        impossible = ask.complete can.formed can.fits
            (λ truth place valuation holds assumed.
            can.refuted.no_valuation (question.problem window) (question.query window subject ids) certificate problem.valid (ask.query can.fits) refutes truth place valuation holds assumed);
        refutes = can.raises (question.problem window) (question.shared window) (question.query window subject ids) certificate problem.shares
            ((can.alone.refutes (question.problem window) (question.query window subject ids) certificate).1 refutes);
      }

  -- each kind of answer
  one_answered : (ticket : ℕ) (ids : List EventId) (answer : WorkAnswer) (own : AnswerOf Shown) → lists window subject ids
      → IsWorkAnswer (question.problem window) (question.query window subject ids) budget workers ticket answer
      → RecordsAnswer question workers plain window subject ids answer own → IsAnswer question window (known_of question window budget workers) subject ticket ids own
  one_answered ticket ids (Model valuation) (Found shown) listed is records = records
  one_answered ticket ids (Model valuation) (Impossible certificate) listed is records = absurd records
  one_answered ticket ids (Model valuation) (Undecided by begins ends) listed is records = absurd records
  one_answered ticket ids (Refuted worker last) (Found shown) listed is records = absurd records
  one_answered ticket ids (Refuted worker last) (Impossible own) listed is records =
      let problem = question.problem window in
      subst (IsRefuted question window subject ids (question.shared window)) (sym records)
      (refuted_is ids (certificate_by (length problem.clauses) workers worker last) listed (certificate_refutes problem (question.query window subject ids) workers worker last is))
  one_answered ticket ids (Refuted worker last) (Undecided by begins ends) listed is records = absurd records
  one_answered ticket ids (Spent worker from to) (Found shown) listed is records = absurd records
  one_answered ticket ids (Spent worker from to) (Impossible own) listed is records = absurd records
  one_answered ticket ids (Spent worker from to) (Undecided by begins ends) listed is records =
      spent_is (question.problem window) (question.query window subject ids) budget ticket workers worker from to by begins ends records.0 records.1 records.2 is

  -- an ask with the answer that it has already, if any
  ask_answered : (ticket : ℕ) (ask : Instance) (given : Option (AnswerOf Shown)) (more : List Query) (answers : List WorkAnswer) (own : AnswerOf Shown) → lists window subject ask.events
      → question.given window subject ask.events ≡ given
      → AnswerEach (question.problem window) budget workers ticket (query_for question window subject ask given ++ more) answers
      → RecordsAsk question workers plain window subject ask.events given answers own
      → IsAnswerTo question window (known_of question window budget workers) subject ticket ask.events given own
      × AnswerEach (question.problem window) budget workers (ticket + tickets_of given) more (left_after given answers)
  ask_answered ticket ask None more [] own listed is each records = absurd records
  ask_answered ticket ask None more (answer ∷ answers) own listed is each records = (one_answered ticket ask.events answer own listed each.0 records, each.1)
  ask_answered ticket ask (Some given) more answers own listed is each records = (
    (
      records ∙ same_answer given,
      subst (Holds question window subject ask.events (question.shared window)) (sym (records ∙ same_answer given)) ((can.lawful.ask window subject ask.events listed).given can.formed can.fits given is),
    ),
    subst (λ n. AnswerEach (question.problem window) budget workers n more answers) (sym (add-zero ticket)) each,
  )

  each_answered : (ticket : ℕ) (asks : List Instance) (more : List Query) (answers : List WorkAnswer) (entries : List (EntryOf Shown)) (left : List WorkAnswer) → AllByRecursion (λ (ask : Instance). lists window subject ask.events) asks
      → AnswerEach (question.problem window) budget workers ticket (queries_each question window subject asks ++ more) answers
      → RecordsEach question workers plain window subject (map (asked_of question window subject) asks) answers entries left
      → AnswersEach question window (known_of question window budget workers) subject ticket asks entries
      × AnswerEach (question.problem window) budget workers (ticket + tickets_in question window subject asks) more left
  each_answered ticket [] more answers [] left listed each records = (
    tt,
    subst (λ n. AnswerEach (question.problem window) budget workers n more left) (sym (add-zero ticket)) (subst (λ xs. AnswerEach (question.problem window) budget workers ticket more xs) records each),
  )
  each_answered ticket [] more answers (entry ∷ entries) left listed each records = absurd records
  each_answered ticket (ask ∷ asks) more answers [] left listed each records = absurd records
  each_answered ticket (ask ∷ asks) more answers (entry ∷ entries) left listed each records =
      let given = question.given window subject ask.events in
      let one = ask_answered ticket ask given (queries_each question window subject asks ++ more) answers entry.answer listed.0 refl
      (subst (λ qs. AnswerEach (question.problem window) budget workers ticket qs answers)
      (append_assoc (query_for question window subject ask given) (queries_each question window subject asks) more) each) records.1 in
      let rest = each_answered (ticket + tickets_of given) asks more (left_after given answers) entries left listed.1 one.1 records.2 in (
        (records.0, one.0, rest.0),
        subst (λ n. AnswerEach (question.problem window) budget workers n more left) (add_assoc ticket (tickets_of given) (tickets_in question window subject asks)) rest.1,
      )

  -- what is recorded of a subject answers it
  pub listed_answered : (ticket : ℕ) (asks : Result (List Instance) InstancesFault) (more : List Query) (answers : List WorkAnswer) (own : PropertyBodyOf Shown) (left : List WorkAnswer)
      → ListsEach (lists window subject) asks
      → AnswerEach (question.problem window) budget workers ticket (queries_of question window subject asks ++ more) answers
      → RecordsListed question workers plain window subject (listed_of question window subject asks) answers own left
      → AnswersListed question window (known_of question window budget workers) subject ticket asks own
      × AnswerEach (question.problem window) budget workers (ticket + tickets_listed question window subject asks) more left
  listed_answered ticket (Ok asks) more answers (body.Entries entries) left listed each records = each_answered ticket asks more answers entries left listed.1 each records
  listed_answered ticket (Ok asks) more answers body.TooMany left listed each records = absurd records
  listed_answered ticket (Err TooMany) more answers body.TooMany left listed each records = (
    tt,
    subst (λ n. AnswerEach (question.problem window) budget workers n more left) (sym (add-zero ticket)) (subst (λ xs. AnswerEach (question.problem window) budget workers ticket more xs) records each),
  )
  listed_answered ticket (Err TooMany) more answers (body.Entries entries) left listed each records = absurd records
  listed_answered ticket (Err Memory) more answers own left listed each records = absurd listed

  ask_can : (ticket : ℕ) (ask : Instance) (given : Option (AnswerOf Shown)) (more : List Query) (answers : List WorkAnswer)
      → AnswerEach (question.problem window) budget workers ticket (query_for question window subject ask given ++ more) answers
      → CanRecordAsk question lists workers window subject ask.events given answers
      × AnswerEach (question.problem window) budget workers (ticket + tickets_of given) more (left_after given answers)
  ask_can ticket ask None more [] each = absurd each
  ask_can ticket ask None more (answer ∷ answers) each =
      (is_sound (question.problem window) (question.query window subject ask.events) budget workers ticket answer each.0, each.1)
  ask_can ticket ask (Some given) more answers each =
      (tt, subst (λ n. AnswerEach (question.problem window) budget workers n more answers) (sym (add-zero ticket)) each)

  each_can : (ticket : ℕ) (asks : List Instance) (more : List Query) (answers : List WorkAnswer) → AllByRecursion (λ (ask : Instance). lists window subject ask.events) asks
      → AnswerEach (question.problem window) budget workers ticket (queries_each question window subject asks ++ more) answers
      → CanRecordEach question lists workers window subject (map (asked_of question window subject) asks) answers
  each_can ticket [] more answers listed each = tt
  each_can ticket (ask ∷ asks) more answers listed each =
      let given = question.given window subject ask.events in
      let one = ask_can ticket ask given (queries_each question window subject asks ++ more) answers
      (subst (λ qs. AnswerEach (question.problem window) budget workers ticket qs answers)
      (append_assoc (query_for question window subject ask given) (queries_each question window subject asks) more) each) in
      (listed.0, one.0, each_can (ticket + tickets_of given) asks more (left_after given answers) listed.1 one.1)

  -- the first of the answers can be recorded of a subject
  pub can_record : (ticket : ℕ) (asks : Result (List Instance) InstancesFault) (more : List Query) (answers : List WorkAnswer)
      → ListsEach (lists window subject) asks
      → AnswerEach (question.problem window) budget workers ticket (queries_of question window subject asks ++ more) answers
      → CanRecord question lists workers window subject (listed_of question window subject asks) answers
  can_record ticket (Ok asks) more answers listed each = each_can ticket asks more answers listed.1 each
  can_record ticket (Err fault) more answers listed each = tt
