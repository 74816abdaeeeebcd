-- What one worker says that is asked alone.
use Rattle.std.proofs.Common.{ℕ, zero, suc, ◌≡◌, ◌∙◌, ap, sym, refl, subst, inl, inr, List, [], ◌∷◌, ◌++◌, ◌-◌, Option, Some, None, map, length, slice_get, flat_map, append-nil, arith, All, Contains}
use Rattle.std.specs.Prelude.{IsPermutation, IsSomeAnd}
use Rattle.std.proofs.lemmas.List.{length_push}
use Rattle.std.proofs.lemmas.List.Elements.{All-head}
use Rattle.std.proofs.lemmas.List.Sorted.{All-permutation, length_permutation}
use Rattle.gp_base.specs.ListLaws.{first_or_rest, nothing_in}
use Rattle.gp_certificate.specs.declared.step.Step.{Step}
use Rattle.gp_certificate.specs.Certificate.{Refutes}
use Rattle.gp_clause.specs.declared.problem.Problem.{Problem}
use Rattle.gp_clause.specs.declared.problem.Query.{Query}
use Rattle.gp_constraint.specs.Extended.{nothing_asked}
use Rattle.gp_derivation.specs.declared.record.Turn.{Turn}
use Rattle.gp_derivation.specs.declared.record.WorkerRecord.{WorkerRecord}
use Rattle.gp_derivation.specs.Cones.{RefutesByCone, cone_of}
use Rattle.gp_derivation.specs.Numbering.{CanBeNumbered}
use Rattle.gp_derivation.specs.Spent.{HasTurnSpentOn}
use Rattle.gp_workers.specs.declared.work.WindowWork.{WindowWork}
use Rattle.gp_workers.specs.declared.work.WorkAnswer.{WorkAnswer}
use Rattle.gp_workers.specs.Mail.{taken_entries}
use Rattle.gp_workers.specs.Record.{EachOnce, IsWorkerRecord, tickets_of, TurnsCover}
use Rattle.gp_workers.specs.Sharing.{WorksAlone}
use Rattle.gp_workers.specs.Work.{AnswerEach, CanBeCertified, IsRefutedBy, IsSpentBy, IsWork, certificate_by, log_in}
use Rattle.gp_linked.specs.declared.asking.Asked.{Asked}
use Rattle.gp_linked.specs.Asked.{IsAsked}
use Rattle.gp_linked.specs.Spent.{IsSpentAlone}

-- one query has one answer
pub one_answer : (problem : Problem) (budget : ℕ) (records : List WorkerRecord) (answers : List WorkAnswer) → AnswerEach problem budget records 0 (nothing_asked ∷ []) answers
    → length answers ≡ 1
one_answer problem budget records [] each = absurd each
one_answer problem budget records (answer ∷ []) each = refl
one_answer problem budget records (answer ∷ other ∷ more) each = absurd each.1

-- what is taken from the end of a list of one is the only one
pub only_one : {X : Type 0} (all front : List X) (x : X) → length all ≡ 1 → all ≡ front ++ x ∷ [] → all ≡ x ∷ []
only_one all [] x one is = is
only_one all (first ∷ front) x one is =
    let size : length all ≡ suc (length (front ++ x ∷ [])) = ap (λ xs. length xs) is in
    let more = length_push front x in absurd (omega (arith, one, size, more))

-- the one answer and the one record are those of the work
pub is_asked : (problem : Problem) (budget : ℕ) (work : WindowWork) (asked : Asked) → IsWork problem (nothing_asked ∷ []) 1 budget work → WorksAlone work
    → work.answers ≡ asked.answer ∷ [] → work.records ≡ asked.own ∷ [] → IsAsked problem budget asked
is_asked problem budget work asked is alone answers records =
    let one : AnswerEach problem budget (asked.own ∷ []) 0 (nothing_asked ∷ []) work.answers =
    subst (λ (rs : List WorkerRecord). AnswerEach problem budget rs 0 (nothing_asked ∷ []) work.answers) records is.answers in
    let each : AnswerEach problem budget (asked.own ∷ []) 0 (nothing_asked ∷ []) (asked.answer ∷ []) =
    subst (AnswerEach problem budget (asked.own ∷ []) 0 (nothing_asked ∷ [])) answers one in
    record {
      answers = each.0;
      worked = All-head (IsWorkerRecord problem) asked.own [] (subst (All (IsWorkerRecord problem)) records is.records);
      once = subst (EachOnce 1) records is.once;
      alone = All-head (λ (own : WorkerRecord). taken_entries own.log ≡ []) asked.own []
          (subst (All (λ (own : WorkerRecord). taken_entries own.log ≡ [])) records alone.records.taken);
    }

alone_in : {X : Type 0} (x : X) (ys : List X) → length ys ≡ 1 → All (λ y. y ≡ x) ys → ys ≡ x ∷ []
alone_in x [] len all = absurd (omega arith)
alone_in x (y ∷ []) len all = ap (λ z. z ∷ []) (all 0 y (omega arith))
alone_in x (y ∷ z ∷ more) len all = absurd (omega arith)

one_permutation : {X : Type 0} (x : X) (ys : List X) → IsPermutation (x ∷ []) ys → ys ≡ x ∷ []
one_permutation x ys h =
    alone_in x ys (length_permutation (x ∷ []) ys h) (All-permutation (λ y. y ≡ x) (x ∷ []) ys h (λ i d low. let first : i ≡ 0 = omega arith in rw first))

-- the turns of one ticket are one
one_turn : (turns : List Turn) (turn : Turn) → map (λ (one : Turn). one.ticket) turns ≡ 0 ∷ [] → Contains turns turn → turns ≡ turn ∷ []
one_turn [] turn is i = absurd (nothing_in turn i)
one_turn (one ∷ []) turn is i =
    elim (first_or_rest one [] turn i) [
      | inl same ↦ ap (λ (t : Turn). t ∷ []) same
      | inr none ↦ absurd (nothing_in turn none)
    ]
one_turn (one ∷ other ∷ more) turn is i =
    let size : suc (suc (length (map (λ (t : Turn). t.ticket) more))) ≡ 1 = ap (λ (ns : List ℕ). length ns) is in absurd (omega (arith, size))

own_of : (P : WorkerRecord → Type 0) (own : WorkerRecord) (place : ℕ) → IsSomeAnd (slice_get (own ∷ []) place) P → P own
own_of P own zero is = is
own_of P own (suc place) is = absurd is

-- what a spent budget says of the one record
pub spent_alone : (problem : Problem) (budget : ℕ) (own : WorkerRecord) (worker from to : ℕ) → IsSpentBy problem nothing_asked budget (own ∷ []) 0 worker from to
    → IsWorkerRecord problem own → EachOnce 1 (own ∷ []) → taken_entries own.log ≡ [] → IsSpentAlone problem budget own.log from to
spent_alone problem budget own worker from to spent worked once alone =
    let has = own_of (λ one. HasTurnSpentOn problem nothing_asked one 0 budget from to) own _ spent.own in
    let tickets : tickets_of own ≡ 0 ∷ [] = sym (append-nil (tickets_of own)) ∙ one_permutation 0 (flat_map tickets_of (own ∷ [])) once in
    let turns : own.turns ≡ has.0 ∷ [] = one_turn own.turns has.0 tickets has.1 in
    record {
      turn = has.0;
      ticket = has.2;
      covers = subst (TurnsCover own.log 0 (length own.log)) turns worked.covered;
      alone = alone;
      spent = has.3;
    }

-- the certificate of what refutes a query can be made
pub certified : (problem : Problem) (query : Query) (workers : List WorkerRecord) (worker : ℕ) (last : Step) → IsRefutedBy problem query workers worker last → CanBeCertified (length problem.clauses) workers worker last
certified problem query workers worker last is = record { counts = is.counts; own = by (slice_get workers (worker - 1)) is.own }
  where
    by : (own : Option WorkerRecord) → IsSomeAnd own (λ one. RefutesByCone problem query one.log last) → IsSomeAnd own (λ one. CanBeNumbered (length problem.clauses) one.log last)
    by None refutes = absurd refutes
    by (Some one) refutes = refutes.numbered

-- and refutes it
pub certificate_refutes : (problem : Problem) (query : Query) (workers : List WorkerRecord) (worker : ℕ) (last : Step) → IsRefutedBy problem query workers worker last
    → Refutes problem query (certificate_by (length problem.clauses) workers worker last)
certificate_refutes problem query workers worker last is = by (slice_get workers (worker - 1)) is.own
  where
    by : (own : Option WorkerRecord) → IsSomeAnd own (λ one. RefutesByCone problem query one.log last) → Refutes problem query (cone_of (length problem.clauses) (log_in own) last)
    by None refutes = absurd refutes
    by (Some one) refutes = refutes.refutes
