-- What workers hand back, gathered one after another, and put in the order of the queries.
use Rattle.std.proofs.Common.{◌≡◌, refl, sym, ◌∙◌, ap, subst, ℕ, zero, suc, ◌+◌, ◌-◌, List, [], ◌∷◌, ◌++◌, Some, length, map, flat_map, drop, get_or, All, arith}
use Rattle.std.specs.Prelude.{IsSomeAnd, IsPermutation}
use Rattle.std.specs.List.{range_with_len, slice_get}
use Rattle.std.proofs.lemmas.Grind.{flat_map-append}
use Rattle.std.proofs.lemmas.List.{append-nil, drop-drop, length-append, map-append}
use Rattle.std.proofs.lemmas.List.Elements.{All-append, All-cons, All-head, All-nil, All-push, All-tail, All-weaker}
use Rattle.std.proofs.lemmas.List.Sorted.{All-permutation, IsPermutation-map, IsPermutation-sym}
use Rattle.gp_clause.specs.declared.problem.Problem.{Problem}
use Rattle.gp_clause.specs.declared.problem.Query.{Query}
use Rattle.gp_derivation.specs.declared.record.WorkerRecord.{WorkerRecord}
use Rattle.gp_derivation.specs.Cones.{RefutesByCone}
use Rattle.gp_derivation.specs.Spent.{HasTurnSpentOn}
use Rattle.gp_tickets.specs.declared.drawn.Made.{Made}
use Rattle.gp_workers.specs.declared.crew.Gathered.{Gathered}
use Rattle.gp_workers.specs.declared.crew.Worked.{Worked}
use Rattle.gp_tickets.specs.declared.tickets.Tickets.{Tickets}
use Rattle.gp_workers.specs.declared.work.WindowWork.{WindowWork}
use Rattle.gp_workers.specs.declared.work.WorkAnswer.{WorkAnswer}
use Rattle.gp_workers.specs.declared.work.WorkAnswer.TheVariants as answer
use Rattle.gp_workers.specs.Crew.{Answers, IsDone, IsGathered}
use Rattle.gp_tickets.specs.declared.drawn.Drawn.{Drawn}
use Rattle.gp_tickets.specs.Drawn.{AreInOrder, drawers_of, HasDrawn, numbers_of}
use Rattle.gp_tickets.specs.Tickets.{hand_of}
use Rattle.gp_workers.specs.Worker.{AnswersOwn, IsAnswerBy}
use Rattle.gp_workers.specs.Record.{EachOnce, IsWorkerRecord, tickets_of}
use Rattle.gp_workers.specs.Work.{AnswerEach, IsAnswerTo, IsWork}
use Rattle.gp_workers.proofs.WorkerAnswers.{some_weaker}

-- what stands at a place still does when the list grows at its end
longer_has : {X : Type 0} (P : X → Type 0) (xs ys : List X) (place : ℕ) → IsSomeAnd (slice_get xs place) P → IsSomeAnd (slice_get (xs ++ ys) place) P
longer_has P [] ys place is = absurd is
longer_has P (x ∷ xs) ys zero is = is
longer_has P (x ∷ xs) ys (suc place) is = longer_has P xs ys place is

-- what is pushed stands at the end
last_has : {X : Type 0} (P : X → Type 0) (xs : List X) (x : X) → P x → IsSomeAnd (slice_get (xs ++ x ∷ []) (length xs)) P
last_has P [] x is = is
last_has P (first ∷ xs) x is = last_has P xs x is

-- an answer of a worker of its own record is one of all records
own_answer : (problem : Problem) (query : Query) (budget : ℕ) (before : List WorkerRecord) (own : WorkerRecord) (ticket : ℕ) (answer : WorkAnswer) → IsAnswerBy problem query budget (length before + 1) own ticket answer
    → IsAnswerTo problem query budget (before ++ own ∷ []) ticket answer
own_answer problem query budget before own ticket (answer.Model valuation) is = is
own_answer problem query budget before own ticket (answer.Refuted worker last) is =
    let place : length before ≡ worker - 1 = omega (arith, is.0) in record {
      counts = omega (arith, is.0);
      own = subst (λ (n : ℕ). IsSomeAnd (slice_get (before ++ own ∷ []) n) (λ one. RefutesByCone problem query one.log last)) place (last_has (λ one. RefutesByCone problem query one.log last) before own is.1);
    }
own_answer problem query budget before own ticket (answer.Spent worker from to) is =
    let place : length before ≡ worker - 1 = omega (arith, is.0) in record {
      counts = omega (arith, is.0);
      own = subst (λ (n : ℕ). IsSomeAnd (slice_get (before ++ own ∷ []) n) (λ one. HasTurnSpentOn problem query one ticket budget from to)) place
          (last_has (λ one. HasTurnSpentOn problem query one ticket budget from to) before own is.1);
    }

-- and it stays one when more records come
kept_answer : (problem : Problem) (query : Query) (budget : ℕ) (before more : List WorkerRecord) (ticket : ℕ) (answer : WorkAnswer) → IsAnswerTo problem query budget before ticket answer → IsAnswerTo problem query budget (before ++ more) ticket answer
kept_answer problem query budget before more ticket (answer.Model valuation) is = is
kept_answer problem query budget before more ticket (answer.Refuted worker last) is = record {
  counts = is.counts;
  own = longer_has (λ one. RefutesByCone problem query one.log last) before more (worker - 1) is.own;
}
kept_answer problem query budget before more ticket (answer.Spent worker from to) is = record {
  counts = is.counts;
  own = longer_has (λ one. HasTurnSpentOn problem query one ticket budget from to) before more (worker - 1) is.own;
}

own_answers : (problem : Problem) (queries : List Query) (budget : ℕ) (before : List WorkerRecord) (own : WorkerRecord) (answers : List (Made WorkAnswer)) → All (AnswersOwn problem queries budget (length before + 1) own) answers
    → All (Answers problem queries budget (before ++ own ∷ [])) answers
own_answers problem queries budget before own answers all =
    All-weaker (AnswersOwn problem queries budget (length before + 1) own) (Answers problem queries budget (before ++ own ∷ []))
    (λ answered is.
    some_weaker (λ query. IsAnswerBy problem query budget (length before + 1) own answered.number answered.value) (λ query. IsAnswerTo problem query budget (before ++ own ∷ []) answered.number answered.value)
    (slice_get queries answered.number) (λ query one. own_answer problem query budget before own answered.number answered.value one) is) answers all

kept_answers : (problem : Problem) (queries : List Query) (budget : ℕ) (before more : List WorkerRecord) (answers : List (Made WorkAnswer)) → All (Answers problem queries budget before) answers → All (Answers problem queries budget (before ++ more)) answers
kept_answers problem queries budget before more answers all =
    All-weaker (Answers problem queries budget before) (Answers problem queries budget (before ++ more))
    (λ answered is.
    some_weaker (λ query. IsAnswerTo problem query budget before answered.number answered.value) (λ query. IsAnswerTo problem query budget (before ++ more) answered.number answered.value)
    (slice_get queries answered.number) (λ query one. kept_answer problem query budget before more answered.number answered.value one) is) answers all

-- what the first worker handed back is gathered
pub first_gathered : (tickets : Tickets) (problem : Problem) (queries : List Query) (budget : ℕ) (worked : Worked) (new : Gathered) → IsDone tickets problem queries budget 1 worked
    → new.drawn ≡ worked.drawn → new.records.items ≡ worked.record ∷ [] → IsGathered tickets problem queries budget new
first_gathered tickets problem queries budget worked new done drawn records = record {
  drawn = subst (HasDrawn tickets) (sym drawn) done.drawn;
  drawers = ap drawers_of drawn ∙ done.single ∙ sym (ap (λ (rs : List WorkerRecord). length rs) records);
  answered = subst (λ (rs : List WorkerRecord). All (Answers problem queries budget rs) new.drawn.made.items) (sym records)
      (subst (λ (d : Drawn WorkAnswer). All (Answers problem queries budget (worked.record ∷ [])) d.made.items) (sym drawn) (own_answers problem queries budget [] worked.record worked.drawn.made.items done.answered));
  turns = ap (λ (rs : List WorkerRecord). flat_map tickets_of rs) records ∙ append-nil (tickets_of worked.record) ∙ done.tickets_drawn ∙ sym (ap (λ (d : Drawn WorkAnswer). (hand_of d.drawer).drawn) drawn);
  records = subst (λ (rs : List WorkerRecord). All (IsWorkerRecord problem) rs) (sym records) (All-cons (IsWorkerRecord problem) worked.record [] done.own (All-nil (IsWorkerRecord problem)));
}

-- what the next worker handed back is gathered with the rest
pub next_gathered : (tickets : Tickets) (problem : Problem) (queries : List Query) (budget : ℕ) (old : Gathered) (worked : Worked) (new : Gathered) → IsGathered tickets problem queries budget old
    → IsDone tickets problem queries budget (length old.records.items + 1) worked → new.drawn.made.items ≡ old.drawn.made.items ++ worked.drawn.made.items → new.records.items ≡ old.records.items ++ worked.record ∷ []
    → HasDrawn tickets new.drawn → drawers_of new.drawn ≡ drawers_of old.drawn + drawers_of worked.drawn → IsGathered tickets problem queries budget new
next_gathered tickets problem queries budget old worked new gathered done made records drawn drawers = record {
  drawn = drawn;
  drawers = omega (arith, drawers, gathered.drawers, done.single, more);
  answered = subst (λ (rs : List WorkerRecord). All (Answers problem queries budget rs) new.drawn.made.items) (sym records)
      (subst (λ (es : List (Made WorkAnswer)). All (Answers problem queries budget (old.records.items ++ worked.record ∷ [])) es) (sym made)
      (All-append (Answers problem queries budget (old.records.items ++ worked.record ∷ [])) old.drawn.made.items worked.drawn.made.items
      (kept_answers problem queries budget old.records.items (worked.record ∷ []) old.drawn.made.items gathered.answered)
      (own_answers problem queries budget old.records.items worked.record worked.drawn.made.items done.answered)));
  turns = ap (λ (rs : List WorkerRecord). flat_map tickets_of rs) records ∙ flat_map-append tickets_of old.records.items (worked.record ∷ []) ∙ ap (λ (ns : List ℕ). flat_map tickets_of old.records.items ++ ns) (append-nil (tickets_of worked.record))
      ∙ (λ i. gathered.turns i ++ done.tickets_drawn i) ∙ (λ i. sym gathered.drawn.numbers i ++ sym done.drawn.numbers i)
      ∙ sym (map-append (λ (one : Made WorkAnswer). one.number) old.drawn.made.items worked.drawn.made.items) ∙ sym (ap numbers_of made) ∙ drawn.numbers;
  records = subst (λ (rs : List WorkerRecord). All (IsWorkerRecord problem) rs) (sym records) (All-push (IsWorkerRecord problem) old.records.items worked.record gathered.records done.own);
}
  where
    more : length new.records.items ≡ length old.records.items + 1
    more = ap (λ (rs : List WorkerRecord). length rs) records ∙ length-append old.records.items (worked.record ∷ [])

-- the query at a place is the first of those from there on
query_at : (queries rest : List Query) (query : Query) (place : ℕ) → drop place queries ≡ query ∷ rest → slice_get queries place ≡ Some query
query_at [] rest query zero from = absurd (no_list from)
  where
    no_list : [] ≡ query ∷ rest → ⊥
    no_list e = let none : 0 ≡ suc (length rest) = ap (λ (qs : List Query). length qs) e in omega (arith, none)
query_at [] rest query (suc place) from = absurd (no_list from)
  where
    no_list : [] ≡ query ∷ rest → ⊥
    no_list e = let none : 0 ≡ suc (length rest) = ap (λ (qs : List Query). length qs) e in omega (arith, none)
query_at (first ∷ queries) rest query zero from = ap (λ (qs : List Query). slice_get qs 0) from
query_at (first ∷ queries) rest query (suc place) from = query_at queries rest query place from

-- answers in the order of their tickets answer the queries in order
each_answered : (problem : Problem) (queries : List Query) (budget : ℕ) (workers : List WorkerRecord) (first : ℕ) (rest : List Query) (answers : List (Made WorkAnswer)) → drop first queries ≡ rest
    → All (Answers problem queries budget workers) answers → numbers_of answers ≡ range_with_len first (length rest)
    → AnswerEach problem budget workers first rest (map (λ (one : Made WorkAnswer). one.value) answers)
each_answered problem queries budget workers first [] [] from all tickets = tt
each_answered problem queries budget workers first [] (one ∷ answers) from all tickets = absurd (let n : suc (length (numbers_of answers)) ≡ 0 = ap (λ (ns : List ℕ). length ns) tickets in omega (arith, n))
each_answered problem queries budget workers first (query ∷ rest) [] from all tickets = absurd (let n : 0 ≡ suc (length (range_with_len (first + 1) (length rest))) = ap (λ (ns : List ℕ). length ns) tickets in omega (arith, n))
each_answered problem queries budget workers first (query ∷ rest) (one ∷ answers) from all tickets = (
  subst (λ (n : ℕ). IsAnswerTo problem query budget workers n one.value) ticket
      (subst (λ o. IsSomeAnd o (λ asked. IsAnswerTo problem asked budget workers one.number one.value)) (ap (λ (n : ℕ). slice_get queries n) ticket ∙ query_at queries rest query first from)
      (All-head (Answers problem queries budget workers) one answers all)),
  each_answered problem queries budget workers (first + 1) rest answers next (All-tail (Answers problem queries budget workers) one answers all) (ap (λ (ns : List ℕ). drop 1 ns) tickets),
)
  where
    ticket : one.number ≡ first
    ticket = ap (λ (ns : List ℕ). get_or ns 0 0) tickets

    next : drop (first + 1) queries ≡ rest
    next = sym (drop-drop 1 first queries) ∙ ap (λ (qs : List Query). drop 1 qs) from

-- what all workers handed back, in the order of the tickets, is the work
pub all_gathered : (tickets : Tickets) (problem : Problem) (queries : List Query) (budget : ℕ) (gathered : Gathered) (answers : List WorkAnswer) (work : WindowWork) → IsGathered tickets problem queries budget gathered
    → length gathered.records.items ≡ tickets.crew → tickets.count ≡ length queries → AreInOrder tickets.count gathered.drawn.made.items answers
    → work.answers ≡ answers → work.records ≡ gathered.records.items → IsWork problem queries tickets.crew budget work
all_gathered tickets problem queries budget gathered answers work is all counted ordered told records = record {
  answers = subst (λ (rs : List WorkerRecord). AnswerEach problem budget rs 0 queries work.answers) (sym records)
      (subst (λ (es : List WorkAnswer). AnswerEach problem budget gathered.records.items 0 queries es) (sym (told ∙ ordered.are))
      (each_answered problem queries budget gathered.records.items 0 queries ordered.sorted refl (All-permutation (Answers problem queries budget gathered.records.items) gathered.drawn.made.items ordered.sorted ordered.moved is.answered) row));
  workers = ap (λ (rs : List WorkerRecord). length rs) records ∙ all;
  records = subst (λ (rs : List WorkerRecord). All (IsWorkerRecord problem) rs) (sym records) is.records;
  once = subst (EachOnce (length queries)) (sym records) (subst (λ (ns : List ℕ). IsPermutation (range_with_len 0 (length queries)) ns) (is.drawn.numbers ∙ sym is.turns)
      (subst (λ (ns : List ℕ). IsPermutation ns (numbers_of gathered.drawn.made.items)) row (IsPermutation-sym (numbers_of gathered.drawn.made.items) (numbers_of ordered.sorted)
      (IsPermutation-map (λ (one : Made WorkAnswer). one.number) gathered.drawn.made.items ordered.sorted ordered.moved))));
}
  where
    row : numbers_of ordered.sorted ≡ range_with_len 0 (length queries)
    row = ordered.numbers ∙ ap (range_with_len 0) counted
