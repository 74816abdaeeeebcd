-- How far the subjects of a window are answered.
use Rattle.std.proofs.Common.{◌≡◌, ◌∙◌, sym, subst, ap, refl, ℕ, ◌+◌, ◌*◌, ◌≤◌, List, [], ◌∷◌, ◌++◌, length, Option, Some, None, Result, Ok, Err, append-nil, append_assoc, length-append, arith}
use Rattle.std.proofs.lemmas.List.Elements.{All-from_recursion}
use Rattle.std.specs.List.{AllByRecursion}
use Rattle.gp_clause.specs.declared.problem.Problem.{Problem}
use Rattle.gp_clause.specs.declared.problem.Query.{Query}
use Rattle.gp_clause.specs.Problem.{IsValidQuery}
use Rattle.gp_derivation.specs.declared.record.WorkerRecord.{WorkerRecord}
use Rattle.gp_instance.specs.declared.instance.Instance.{Instance}
use Rattle.gp_instance.specs.declared.instance.InstancesFault.{InstancesFault}
use Rattle.gp_instance.specs.ListedLaws.{ListsEach}
use Rattle.gp_report.specs.declared.record.AnswerOf.{AnswerOf}
use Rattle.gp_report.specs.declared.record.PropertyRecordOf.{PropertyRecordOf}
use Rattle.gp_window.specs.declared.schedule.EventId.{EventId}
use Rattle.gp_window.specs.WindowForm.{WindowForm}
use Rattle.gp_workers.specs.declared.work.WorkAnswer.{WorkAnswer}
use Rattle.gp_workers.specs.Work.{AnswerEach, CanBeAsked}
use Rattle.gp_analysis.specs.declared.listing.Asked.{Asked}
use Rattle.gp_analysis.specs.Answered.{AnswersSubjects, known_of}
use Rattle.gp_analysis.specs.Listed.{listed_from, listed_of, queries_each, queries_from, queries_of, query_for}
use Rattle.gp_analysis.specs.Question.{ListsAsks, QuestionForm}
use Rattle.gp_analysis.specs.Recorded.{CanBeAnswered}
use Rattle.gp_analysis.specs.Recording.{CanRecord, RecordsListed}
use Rattle.gp_analysis.specs.Tickets.{asked_of, subjects_tickets, tickets_in, tickets_listed, tickets_of}
use Rattle.gp_analysis.proofs.Evidence.{CanAnswer, can_record, listed_answered, plain}

abbrev head_or : {A : Type 0} → A → List A → A
head_or d [] = d
head_or d (x ∷ xs) = x

abbrev rest_of : {A : Type 0} → List A → List A
rest_of [] = []
rest_of (x ∷ xs) = xs

by_append : {A : Type 0} (P : A → Type 0) (xs ys : List A) → AllByRecursion P xs → AllByRecursion P ys → AllByRecursion P (xs ++ ys)
by_append P [] ys h k = k
by_append P (x ∷ xs) ys h k = (h.0, by_append P xs ys h.1 k)

module _ {Subject Shown : Type 0} (question : QuestionForm Subject Shown) (window : WindowForm) where
  query_counts : (subject : Subject) (ask : Instance) (given : Option (AnswerOf Shown)) → length (query_for question window subject ask given) ≡ tickets_of given
  query_counts subject ask None = refl
  query_counts subject ask (Some given) = refl

  each_counts : (subject : Subject) (asks : List Instance) → length (queries_each question window subject asks) ≡ tickets_in question window subject asks
  each_counts subject [] = refl
  each_counts subject (ask ∷ asks) =
      let given = question.given window subject ask.events in
      length-append (query_for question window subject ask given) (queries_each question window subject asks)
      ∙ ap (λ n. n + length (queries_each question window subject asks)) (query_counts subject ask given)
      ∙ ap (λ n. tickets_of given + n) (each_counts subject asks)

  listed_counts : (subject : Subject) (asks : Result (List Instance) InstancesFault) → length (queries_of question window subject asks) ≡ tickets_listed question window subject asks
  listed_counts subject (Ok asks) = each_counts subject asks
  listed_counts subject (Err fault) = refl

  -- there are as many queries as tickets
  pub queries_count : (number : ℕ) (subjects : List Subject) → length (queries_from question window number subjects) ≡ subjects_tickets question window number subjects
  queries_count number [] = refl
  queries_count number (subject ∷ subjects) =
      let asks = question.asks window subject number in
      length-append (queries_of question window subject asks) (queries_from question window (number + 1) subjects)
      ∙ ap (λ n. n + length (queries_from question window (number + 1) subjects)) (listed_counts subject asks)
      ∙ ap (λ n. tickets_listed question window subject asks + n) (queries_count (number + 1) subjects)

module _ {Subject Shown : Type 0} (question : QuestionForm Subject Shown) (lists : WindowForm → Subject → List EventId → Type 0) (window : WindowForm) (budget : ℕ) where
  -- some subjects are answered, and with what answers the rest they are all
  pub record IsAnswering (workers : List WorkerRecord) (rest : List Subject) (listed : List (Option (List (Asked Shown)))) (answers : List WorkAnswer) (own : List (PropertyRecordOf Shown)) : Type 0 where
    pub number : ℕ
    pub ticket : ℕ
    pub asks : AllByRecursion (ListsAsks question lists) rest
    pub listed_is : listed ≡ listed_from question window number rest
    pub answers_are : AnswerEach (question.problem window) budget workers ticket (queries_from question window number rest) answers
    pub completes : (more : List (PropertyRecordOf Shown)) → AnswersSubjects question window (known_of question window budget workers) number ticket rest more
        → AnswersSubjects question window (known_of question window budget workers) 0 0 question.subjects (own ++ more)

  module _ (can : CanAnswer question lists window) where
    query_valid : (subject : Subject) (ask : Instance) (given : Option (AnswerOf Shown)) → lists window subject ask.events
        → AllByRecursion (IsValidQuery (question.problem window)) (query_for question window subject ask given)
    query_valid subject ask None listed = ((can.lawful.ask window subject ask.events listed).query can.fits, tt)
    query_valid subject ask (Some given) listed = tt

    each_valid : (subject : Subject) (asks : List Instance) → AllByRecursion (λ (ask : Instance). lists window subject ask.events) asks
        → AllByRecursion (IsValidQuery (question.problem window)) (queries_each question window subject asks)
    each_valid subject [] listed = tt
    each_valid subject (ask ∷ asks) listed =
        by_append (IsValidQuery (question.problem window)) (query_for question window subject ask (question.given window subject ask.events)) (queries_each question window subject asks)
        (query_valid subject ask (question.given window subject ask.events) listed.0) (each_valid subject asks listed.1)

    listed_valid : (subject : Subject) (asks : Result (List Instance) InstancesFault) → ListsEach (lists window subject) asks
        → AllByRecursion (IsValidQuery (question.problem window)) (queries_of question window subject asks)
    listed_valid subject (Ok asks) listed = each_valid subject asks listed.1
    listed_valid subject (Err fault) listed = tt

    queries_valid : (number : ℕ) (subjects : List Subject) → AllByRecursion (ListsAsks question lists) subjects
        → AllByRecursion (IsValidQuery (question.problem window)) (queries_from question window number subjects)
    queries_valid number [] each = tt
    queries_valid number (subject ∷ subjects) each =
        by_append (IsValidQuery (question.problem window)) (queries_of question window subject (question.asks window subject number)) (queries_from question window (number + 1) subjects)
        (listed_valid subject (question.asks window subject number) (each.0 window number)) (queries_valid (number + 1) subjects each.1)

    -- all queries can be asked of so many workers
    pub can_be_asked : (problem : Problem) (queries : List Query) → problem ≡ question.problem window → queries ≡ queries_from question window 0 question.subjects
        → CanBeAnswered question budget window → CanBeAsked problem queries budget
    can_be_asked problem queries same are answerable =
        let own = can.lawful.problem window can.fits in
        let all : CanBeAsked (question.problem window) (queries_from question window 0 question.subjects) budget = record {
          valid = own.valid;
          solvable = own.solvable;
          each = All-from_recursion (IsValidQuery (question.problem window)) (queries_from question window 0 question.subjects) (queries_valid 0 question.subjects can.lawful.listed);
          few = record {
            few_clauses = own.few_clauses;
            least = answerable.least;
            few = subst (λ n. n * budget ≤ 1000000) (sym (queries_count question window 0 question.subjects))
                (subst (λ left. asked_of left (subjects_tickets question window 0 question.subjects) * budget ≤ 1000000) can.fits answerable.limit);
          };
        } in
        subst (λ (p : Problem). CanBeAsked p queries budget) (sym same) (subst (λ qs. CanBeAsked (question.problem window) qs budget) (sym are) all)

    -- at first
    pub at_first : (workers : List WorkerRecord) (left : List Subject) (listed : List (Option (List (Asked Shown)))) (answers : List WorkAnswer) (own : List (PropertyRecordOf Shown)) (queries : List Query) → left ≡ question.subjects
        → listed ≡ listed_from question window 0 question.subjects → queries ≡ queries_from question window 0 question.subjects
        → AnswerEach (question.problem window) budget workers 0 queries answers → own ≡ [] → IsAnswering workers left listed answers own
    at_first workers left listed answers own queries all is are each none =
        subst (λ subjects. IsAnswering workers subjects listed answers own) (sym all) (subst (IsAnswering workers question.subjects listed answers) (sym none) (record {
          number = 0;
          ticket = 0;
          asks = can.lawful.listed;
          listed_is = is;
          answers_are = subst (λ qs. AnswerEach (question.problem window) budget workers 0 qs answers) are each;
          completes = λ more h. h;
        }))

    -- the first of what is listed is that of the next subject, and can be recorded
    pub first_can : (workers : List WorkerRecord) (subject : Subject) (rest left : List Subject) (asked : Option (List (Asked Shown))) (others listed : List (Option (List (Asked Shown)))) (answers : List WorkAnswer) (own : List (PropertyRecordOf Shown))
        → left ≡ subject ∷ rest → listed ≡ asked ∷ others → IsAnswering workers left listed answers own → CanRecord question lists workers window subject asked answers
    first_can workers subject rest left asked others listed answers own is listed_is h =
        let at : IsAnswering workers (subject ∷ rest) (asked ∷ others) answers own =
        subst (λ xs. IsAnswering workers xs (asked ∷ others) answers own) is (subst (λ fs. IsAnswering workers left fs answers own) listed_is h) in
        let same : asked ≡ listed_of question window subject (question.asks window subject at.number) = ap (head_or asked) at.listed_is in
        subst (λ o. CanRecord question lists workers window subject o answers) (sym same)
        (can_record question lists window can budget workers subject at.ticket (question.asks window subject at.number) (queries_from question window (at.number + 1) rest) answers
        (at.asks.0 window at.number) at.answers_are)

    -- and then it is answered too
    pub one_more : (workers : List WorkerRecord) (subject : Subject) (rest left : List Subject) (asked : Option (List (Asked Shown))) (others listed : List (Option (List (Asked Shown)))) (answers after : List WorkAnswer) (own all : List (PropertyRecordOf Shown)) (one : PropertyRecordOf Shown)
        → left ≡ subject ∷ rest → listed ≡ asked ∷ others → IsAnswering workers left listed answers own → one.name ≡ question.name subject
        → RecordsListed question workers plain window subject asked answers one.body after → all ≡ own ++ one ∷ [] → IsAnswering workers rest others after all
    one_more workers subject rest left asked others listed answers after own all one is listed_is h name records all_is =
        let at : IsAnswering workers (subject ∷ rest) (asked ∷ others) answers own =
        subst (λ xs. IsAnswering workers xs (asked ∷ others) answers own) is (subst (λ fs. IsAnswering workers left fs answers own) listed_is h) in
        let same : asked ≡ listed_of question window subject (question.asks window subject at.number) = ap (head_or asked) at.listed_is in
        let answered =
        listed_answered question lists window can budget workers subject at.ticket (question.asks window subject at.number) (queries_from question window (at.number + 1) rest) answers one.body after
        (at.asks.0 window at.number) at.answers_are (subst (λ o. RecordsListed question workers plain window subject o answers one.body after) same records) in
        record {
          number = at.number + 1;
          ticket = at.ticket + tickets_listed question window subject (question.asks window subject at.number);
          asks = at.asks.1;
          listed_is = ap rest_of at.listed_is;
          answers_are = answered.1;
          completes = λ more rests.
              subst (λ xs. AnswersSubjects question window (known_of question window budget workers) 0 0 question.subjects xs) (sym (append_assoc own (one ∷ []) more) ∙ ap (λ xs. xs ++ more) (sym all_is))
              (at.completes (one ∷ more) (name, answered.0, rests));
        }

  -- until all are
  pub all_done : (workers : List WorkerRecord) (left : List Subject) (listed : List (Option (List (Asked Shown)))) (answers : List WorkAnswer) (own : List (PropertyRecordOf Shown)) → length left ≡ 0
      → IsAnswering workers left listed answers own → AnswersSubjects question window (known_of question window budget workers) 0 0 question.subjects own
  all_done workers [] listed answers own e h = subst (AnswersSubjects question window (known_of question window budget workers) 0 0 question.subjects) (append-nil own) (h.completes [] tt)
  all_done workers (subject ∷ left) listed answers own e h = absurd (omega (arith, e))
