-- What answers a window can be written: it has few entries, small numbers and no other workers than there are.
use Rattle.std.proofs.Common.{◌≡◌, ◌∙◌, refl, sym, subst, ap, ℕ, zero, suc, ◌+◌, ◌-◌, ◌^◌, ◌<◌, ◌≤◌, List, [], ◌∷◌, ◌++◌, length, Option, Some, None, Result, Ok, Err, All, IsSomeAnd, slice_get, arith}
use Rattle.std.specs.List.{AllByRecursion}
use Rattle.std.proofs.lemmas.List.{length-append}
use Rattle.std.proofs.lemmas.List.Elements.{All-cons, All-nil, All-weaker}
use Rattle.gp_certificate.specs.declared.certificate.Certificate.{Certificate}
use Rattle.gp_certificate.specs.declared.step.Step.{Step}
use Rattle.gp_certificate.specs.Certificate.{StepsPass, clauses_of}
use Rattle.gp_clause.specs.declared.edge.Edge.{Edge}
use Rattle.gp_clause.specs.declared.kind.Kind.{Kind}
use Rattle.gp_clause.specs.declared.lit.Lit.{Lit}
use Rattle.gp_clause.specs.declared.problem.Query.{Query}
use Rattle.gp_clause.specs.Problem.{IsValidQuery}
use Rattle.gp_derivation.specs.declared.record.WorkerRecord.{WorkerRecord}
use Rattle.gp_instance.specs.declared.instance.Instance.{Instance}
use Rattle.gp_instance.specs.declared.instance.InstancesFault.{InstancesFault}
use Rattle.gp_instance.specs.declared.instance.InstancesFault.TheVariants.{Memory, TooMany}
use Rattle.gp_instance.specs.ListedLaws.{ListsEach}
use Rattle.gp_report.specs.declared.record.AnswerOf.{AnswerOf}
use Rattle.gp_report.specs.declared.record.AnswerOf.TheVariants.{Found, Impossible, Undecided}
use Rattle.gp_report.specs.declared.record.EntryOf.{EntryOf}
use Rattle.gp_report.specs.declared.record.PropertyBodyOf.{PropertyBodyOf}
use Rattle.gp_report.specs.declared.record.PropertyBodyOf.TheVariants as body
use Rattle.gp_report.specs.declared.record.PropertyRecordOf.{PropertyRecordOf}
use Rattle.gp_report.specs.declared.record.WindowBodyOf.{WindowBodyOf}
use Rattle.gp_report.specs.declared.record.WindowBodyOf.TheVariants as recorded
use Rattle.gp_report.specs.declared.record.WindowRecordOf.{WindowRecordOf}
use Rattle.gp_report.specs.Report.{IsEntry, IsPropertyBody, IsPropertyRecord, IsPrintableAnswer, IsWindowBody, IsPrintableStep}
use Rattle.gp_window.specs.declared.schedule.EventId.{EventId}
use Rattle.gp_window.specs.WindowForm.{WindowForm}
use Rattle.gp_workers.specs.declared.work.WindowWork.{WindowWork}
use Rattle.gp_workers.specs.Record.{EachOnce}
use Rattle.gp_workers.specs.Prefixes.{AreSharing}
use Rattle.gp_workers.specs.Sharing.{ShareNothing}
use Rattle.gp_workers.specs.Work.{IsWork}
use Rattle.gp_clause.specs.declared.problem.Problem.{Problem}
use Rattle.gp_analysis.specs.declared.question.LeftOut.{LeftOut}
use Rattle.gp_analysis.specs.declared.question.LeftOut.TheVariants as out
use Rattle.gp_analysis.specs.Answered.{AnswersBody, AnswersEach, AnswersListed, AnswersSubjects, AreWorkers, IsAnswerTo, RecordsLeftOut, known_of}
use Rattle.gp_analysis.specs.Listed.{queries_from}
use Rattle.gp_analysis.specs.Question.{IsRefuted, ListsAsks, QuestionForm}
use Rattle.gp_analysis.specs.Recorded.{RecordsWindow, shared_where}
use Rattle.gp_analysis.specs.Tickets.{subjects_tickets, tickets_listed, tickets_of}
use Rattle.gp_analysis.proofs.Answering.{queries_count}
use Rattle.gp_analysis.proofs.Evidence.{CanAnswer}

small_steps : (edges : List Edge) (kinds : List Kind) (numbered unnamed : List (List Lit) → List (List Lit)) (earlier : List (List Lit)) (steps : List Step) → length kinds < 2 ^ 31 - 1
    → StepsPass edges kinds numbered unnamed earlier steps → All IsPrintableStep steps
small_steps edges kinds numbered unnamed earlier [] few checks = All-nil IsPrintableStep
small_steps edges kinds numbered unnamed earlier (step ∷ steps) few checks =
    All-cons IsPrintableStep step steps
    (All-weaker (λ (lit : Lit). lit.variable < length kinds) (λ (lit : Lit). lit.variable < 2 ^ 31 - 1) (λ lit below. omega (arith, below, few)) step.clause checks.0.passes.in_range)
    (small_steps edges kinds numbered unnamed (earlier ++ step.clause ∷ []) steps few checks.1)

within : (P : WorkerRecord → Type 0) (workers : List WorkerRecord) (place : ℕ) → IsSomeAnd (slice_get workers place) P → place < length workers
within P [] place own = absurd own
within P (worker ∷ workers) zero own = omega arith
within P (worker ∷ workers) (suc place) own = let rest = within P workers place own in omega (arith, rest)

-- the entries of a subject can be written, and are as many as its asks
pub record AreFit {Shown : Type 0} (asks : List Instance) (entries : List (EntryOf Shown)) : Type 0 where
  pub size : length entries ≡ length asks
  pub each : All IsEntry entries

module _ {Subject Shown : Type 0} (question : QuestionForm Subject Shown) (lists : WindowForm → Subject → List EventId → Type 0) (window : WindowForm) (can : CanAnswer question lists window) (budget : ℕ) (workers : List WorkerRecord) (few : length workers ≤ 16) where
  few_variables : (query : Query) → IsValidQuery (question.problem window) query → length ((question.problem window).kinds ++ query.locals) < 2 ^ 31 - 1
  few_variables query valid =
      let both = length-append (question.problem window).kinds query.locals in
      let problem = (can.lawful.problem window can.fits).valid in
      omega (arith, both, problem.few_kinds, valid.few_locals)

  fit_refuted : (subject : Subject) (ids : List EventId) (certificate : Certificate) → lists window subject ids → IsRefuted question window subject ids (question.shared window) certificate → All IsPrintableStep certificate.steps
  fit_refuted subject ids certificate listed is =
      let query = question.query window subject ids in
      let base = (question.problem window).clauses in
      small_steps (question.problem window).edges ((question.problem window).kinds ++ query.locals) (λ own. base ++ clauses_of (question.shared window) ++ own) (λ own. base ++ own) [] certificate.steps
      (few_variables query ((can.lawful.ask window subject ids listed).query can.fits)) is.refutes.checks.own

  -- the steps that are shared can be written
  fit_shared : All IsPrintableStep (question.shared window)
  fit_shared =
      let problem = can.lawful.problem window can.fits in
      let few_kinds = problem.valid.few_kinds in
      small_steps (question.problem window).edges (question.problem window).kinds (λ clauses. clauses) (λ clauses. clauses) (question.problem window).clauses (question.shared window)
      (omega (arith, few_kinds)) problem.shares

  fit_answer : (ticket : ℕ) (subject : Subject) (ids : List EventId) (given : Option (AnswerOf Shown)) (answer : AnswerOf Shown) → lists window subject ids
      → IsAnswerTo question window (known_of question window budget workers) subject ticket ids given answer → IsPrintableAnswer answer
  fit_answer ticket subject ids None (Found shown) listed is = tt
  fit_answer ticket subject ids None (Impossible certificate) listed is = fit_refuted subject ids certificate listed is
  fit_answer ticket subject ids None (Undecided worker from to) listed is =
      let below : worker - 1 < length workers = within _ workers (worker - 1) is.own in
      (is.counts, omega (arith, below, few))
  fit_answer ticket subject ids (Some given) (Found shown) listed is = tt
  fit_answer ticket subject ids (Some given) (Impossible certificate) listed is = fit_refuted subject ids certificate listed is.1
  fit_answer ticket subject ids (Some given) (Undecided worker from to) listed is = absurd is.1

  fit_entries : (ticket : ℕ) (subject : Subject) (asks : List Instance) (entries : List (EntryOf Shown)) → AllByRecursion (λ (ask : Instance). lists window subject ask.events) asks
      → AnswersEach question window (known_of question window budget workers) subject ticket asks entries → AreFit asks entries
  fit_entries ticket subject [] [] listed each = record { size = refl; each = All-nil IsEntry }
  fit_entries ticket subject [] (entry ∷ entries) listed each = absurd each
  fit_entries ticket subject (ask ∷ asks) [] listed each = absurd each
  fit_entries ticket subject (ask ∷ asks) (entry ∷ entries) listed each =
      let given = question.given window subject ask.events in
      let rest = fit_entries (ticket + tickets_of given) subject asks entries listed.1 each.2 in
      let size : length entry.events ≡ length ask.events = ap (λ (ids : List EventId). length ids) each.0 in
      let own = can.lawful.ask window subject ask.events listed.0 in
      record {
        size = ap suc rest.size;
        each = All-cons IsEntry entry entries (record {
          some = omega (arith, size, own.some);
          few = omega (arith, size, own.few);
          answer = fit_answer ticket subject ask.events given entry.answer listed.0 each.1;
        }) rest.each;
      }

  fit_body : (ticket : ℕ) (subject : Subject) (asks : Result (List Instance) InstancesFault) (own : PropertyBodyOf Shown) → ListsEach (lists window subject) asks
      → AnswersListed question window (known_of question window budget workers) subject ticket asks own → IsPropertyBody own
  fit_body ticket subject (Ok asks) (body.Entries entries) listed answers =
      let fit = fit_entries ticket subject asks entries listed.1 answers in
      (omega (arith, fit.size, listed.0), fit.each)
  fit_body ticket subject (Ok asks) body.TooMany listed answers = tt
  fit_body ticket subject (Err fault) body.TooMany listed answers = tt
  fit_body ticket subject (Err TooMany) (body.Entries entries) listed answers = absurd answers
  fit_body ticket subject (Err Memory) (body.Entries entries) listed answers = absurd listed

  -- the records of the subjects can be written
  fit_records : (number ticket : ℕ) (subjects : List Subject) (records : List (PropertyRecordOf Shown)) → AllByRecursion (ListsAsks question lists) subjects
      → AnswersSubjects question window (known_of question window budget workers) number ticket subjects records → All IsPropertyRecord records
  fit_records number ticket [] [] each answers = All-nil IsPropertyRecord
  fit_records number ticket [] (own ∷ records) each answers = absurd answers
  fit_records number ticket (subject ∷ subjects) [] each answers = absurd answers
  fit_records number ticket (subject ∷ subjects) (own ∷ records) each answers =
      All-cons IsPropertyRecord own records
      (fit_body ticket subject (question.asks window subject number) own.body (each.0 window number) answers.1)
      (fit_records (number + 1) (ticket + tickets_listed question window subject (question.asks window subject number)) subjects records each.1 answers.2)

-- what is recorded of a window that is not left out, once all its subjects are answered
pub is_recorded : {Subject Shown : Type 0} (question : QuestionForm Subject Shown) (lists : WindowForm → Subject → List EventId → Type 0) (window : WindowForm) → CanAnswer question lists window
    → (count budget number : ℕ) → count ≤ 16 → (problem : Problem) (queries : List Query) (work : WindowWork) (shared : List Step) (records : List (PropertyRecordOf Shown))
    → number ≡ window.number → problem ≡ question.problem window → queries ≡ queries_from question window 0 question.subjects → IsWork problem queries count budget work → (count ≡ 1 → ShareNothing work.records) → (2 ≤ count → AreSharing problem count work.records) → shared ≡ question.shared window
    → AnswersSubjects question window (known_of question window budget work.records) 0 0 question.subjects records
    → RecordsWindow question count budget window (record { number = number; shared = shared; body = recorded.Answers records; records = work.records })
is_recorded {Subject} {Shown} question lists window can count budget number most problem queries work shared records at same are is alone sharing told answers =
    subst (λ (steps : List Step). RecordsWindow question count budget window (record { number = number; shared = steps; body = recorded.Answers records; records = work.records })) (sym told) done
  where
    asked : IsWork (question.problem window) (queries_from question window 0 question.subjects) count budget work
    asked = subst (λ qs. IsWork (question.problem window) qs count budget work) are (subst (λ (p : Problem). IsWork p queries count budget work) same is)

    own : AreWorkers (question.problem window) count (subjects_tickets question window 0 question.subjects) work.records
    own = record {
      counted = asked.workers;
      each = asked.records;
      once = subst (λ n. EachOnce n work.records) (queries_count question window 0 question.subjects) asked.once;
      alone = alone;
      shared = λ two. subst (λ (p : Problem). AreSharing p count work.records) same (sharing two);
    }

    done : RecordsWindow question count budget window (record { number = number; shared = question.shared window; body = recorded.Answers records; records = work.records })
    done = record {
      number = at;
      shared = sym (ap (λ left. shared_where left (question.shared window)) can.fits);
      answered = subst (λ left. AnswersBody question window count (known_of question window budget work.records) left (recorded.Answers records)) (sym can.fits)
          ((can.lawful.problem window can.fits).shares, answers, own);
      fits = record {
        shared = fit_shared question lists window can budget work.records (omega (arith, asked.workers, most));
        first_format = λ one. absurd (omega (arith, one));
        body = fit_records question lists window can budget work.records (omega (arith, asked.workers, most)) 0 0 question.subjects records can.lawful.listed answers;
      };
    }

left_fits : {Shown : Type 0} (why : LeftOut) (body : WindowBodyOf Shown) → RecordsLeftOut why body → IsWindowBody [] body
left_fits (out.TooLarge large) (recorded.TooLarge events clauses) is = refl
left_fits (out.TooLarge large) (recorded.Answers records) is = absurd is
left_fits out.Unasked (recorded.TooLarge events clauses) is = absurd is
left_fits out.Unasked (recorded.Answers records) is = subst (All IsPropertyRecord) (sym is) (All-nil IsPropertyRecord)

-- what is recorded of a window that is left out
pub is_left_out : {Subject Shown : Type 0} (question : QuestionForm Subject Shown) (window : WindowForm) (count budget : ℕ) (why : LeftOut) (own : WindowRecordOf Shown) → question.left_out window ≡ Some why
    → own.number ≡ window.number → own.shared ≡ [] → RecordsLeftOut why own.body → own.records ≡ [] → RecordsWindow question count budget window own
is_left_out question window count budget why own is at none body idle = record {
  number = at;
  shared = none ∙ sym (ap (λ left. shared_where left (question.shared window)) is);
  answered = subst (λ left. AnswersBody question window count (record { budget = budget; shared = own.shared; workers = own.records }) left own.body) (sym is) (body, idle);
  fits = record {
    shared = subst (All IsPrintableStep) (sym none) (All-nil IsPrintableStep);
    first_format = λ one. none;
    body = subst (λ (steps : List Step). IsWindowBody steps own.body) (sym none) (left_fits why own.body body);
  };
}
