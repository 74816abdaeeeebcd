-- What a worker answers, and that it stays an answer when the worker goes on.
use Rattle.std.proofs.Common.{◌≡◌, refl, sym, ◌∙◌, ap, subst, ℕ, ◌+◌, ◌<◌, ◌^◌, List, [], ◌∷◌, ◌++◌, Option, Some, None, length, All, sum_by, arith}
use Rattle.std.specs.Prelude.{IsSomeAnd, Contains}
use Rattle.std.specs.List.{slice_get}
use Rattle.std.proofs.lemmas.List.{length-append}
use Rattle.std.proofs.lemmas.List.Elements.{All-weaker, Contains-append_left, Contains-push}
use Rattle.gp_clause.specs.declared.problem.Problem.{Problem}
use Rattle.gp_clause.specs.declared.problem.Query.{Query}
use Rattle.gp_derivation.specs.declared.log.LogEntry.{LogEntry}
use Rattle.gp_derivation.specs.declared.record.Turn.{Turn}
use Rattle.gp_derivation.specs.declared.record.WorkerRecord.{WorkerRecord}
use Rattle.gp_certificate.specs.declared.step.Step.{Step}
use Rattle.gp_certificate.specs.Certificate.{Refutes}
use Rattle.gp_derivation.specs.Cones.{ConeOfStays, RefutesByCone, cone_of}
use Rattle.gp_derivation.specs.Numbering.{AllNameEarlier, size_of}
use Rattle.gp_derivation.specs.Spent.{HasTurnSpentOn, IsSpentOn, SpentStays}
use Rattle.gp_search.specs.declared.verdict.Verdict.{Verdict}
use Rattle.gp_search.specs.declared.verdict.Verdict.TheVariants as verdict
use Rattle.gp_search.specs.Verdict.{IsDue, turn_of}
use Rattle.gp_tickets.specs.declared.drawn.Made.{Made}
use Rattle.gp_workers.specs.declared.work.WorkAnswer.{WorkAnswer}
use Rattle.gp_workers.specs.declared.work.WorkAnswer.TheVariants as answer
use Rattle.gp_workers.specs.Worker.{answer_by, AnswersOwn, IsAnswerBy}

-- a worker whose last turn is at the query has the answer that is due
pub answer_due : (problem : Problem) (query : Query) (budget number ticket begins learned : ℕ) (own : WorkerRecord) (before : List Turn) (verdict : Verdict)
    → own.turns ≡ before ++ turn_of ticket begins learned (length own.log) ∷ [] → IsDue problem query budget own.log begins learned verdict → IsAnswerBy problem query budget number own ticket (answer_by number verdict)
answer_due problem query budget number ticket begins learned own before (verdict.Model valuation) last due = due
answer_due problem query budget number ticket begins learned own before (verdict.Refuted step) last due = (refl, due)
answer_due problem query budget number ticket begins learned own before (verdict.Spent from to) last due = (
  refl,
  (
    turn_of ticket begins learned (length own.log),
    subst (λ (turns : List Turn). Contains turns (turn_of ticket begins learned (length own.log))) (sym last) (Contains-push before (turn_of ticket begins learned (length own.log))),
    refl,
    subst (λ (p : ℕ × ℕ). IsSpentOn problem query own.log budget (turn_of ticket begins p.0 p.1) from to) (λ i. (due.from_learned i, due.to_end i)) (due.spent ticket),
  ),
)

-- a record got some entries and a turn more, and behind the steps of its log, which name what comes before them, there is a
-- number for one more
pub record GoesOn (problem : Problem) (old new : WorkerRecord) : Type 0 where
  pub added : List LogEntry
  pub log : new.log ≡ old.log ++ added
  pub earlier : AllNameEarlier (length problem.clauses) new.log
  pub few : length problem.clauses + sum_by size_of new.log + 1 < 2 ^ 32
  pub turn : Turn
  pub turns : new.turns ≡ old.turns ++ turn ∷ []

spent_on_stays : SpentStays → (problem : Problem) (query : Query) (old new : WorkerRecord) (ticket budget from to : ℕ) → GoesOn problem old new → HasTurnSpentOn problem query old ticket budget from to
    → HasTurnSpentOn problem query new ticket budget from to
spent_on_stays stays problem query old new ticket budget from to on spent = (
  spent.0,
  subst (λ (turns : List Turn). Contains turns spent.0) (sym on.turns) (Contains-append_left old.turns (on.turn ∷ []) spent.0 spent.1),
  spent.2,
  subst (λ (log : List LogEntry). IsSpentOn problem query log budget spent.0 from to) (sym on.log) (stays problem query old.log on.added budget spent.0 from to spent.3),
)

refuted_stays : ConeOfStays → (problem : Problem) (query : Query) (old new : WorkerRecord) (last : Step) → GoesOn problem old new → RefutesByCone problem query old.log last → RefutesByCone problem query new.log last
refuted_stays stays problem query old new last on refutes = record {
  numbered = record {
    entries = on.earlier;
    hints = All-weaker (λ hint. hint < bases + length old.log) (λ hint. hint < bases + length new.log) (λ hint less. omega (arith, less, longer)) last.hints refutes.numbered.hints;
    few = on.few;
  };
  refutes = subst (Refutes problem query) (sym same) refutes.refutes;
}
  where
    bases : ℕ
    bases = length problem.clauses

    longer : length new.log ≡ length old.log + length on.added
    longer = ap (λ (log : List LogEntry). length log) on.log ∙ length-append old.log on.added

    same : cone_of bases new.log last ≡ cone_of bases old.log last
    same = ap (λ (log : List LogEntry). cone_of bases log last) on.log ∙ stays bases old.log on.added last refutes.numbered

answer_stays : SpentStays → ConeOfStays → (problem : Problem) (query : Query) (budget number ticket : ℕ) (old new : WorkerRecord) (answer : WorkAnswer) → GoesOn problem old new → IsAnswerBy problem query budget number old ticket answer
    → IsAnswerBy problem query budget number new ticket answer
answer_stays spent cone problem query budget number ticket old new (answer.Model valuation) on is = is
answer_stays spent cone problem query budget number ticket old new (answer.Refuted worker last) on is = (is.0, refuted_stays cone problem query old new last on is.1)
answer_stays spent cone problem query budget number ticket old new (answer.Spent worker from to) on is = (is.0, spent_on_stays spent problem query old new ticket budget from to on is.1)

-- what is there has what follows from what it has
pub some_weaker : {X : Type 0} (P Q : X → Type 0) (o : Option X) → ((x : X) → P x → Q x) → IsSomeAnd o P → IsSomeAnd o Q
some_weaker P Q None weaker is = is
some_weaker P Q (Some x) weaker is = weaker x is

-- so all answers so far stay
pub answers_stay : SpentStays → ConeOfStays → (problem : Problem) (queries : List Query) (budget number : ℕ) (old new : WorkerRecord) (answers : List (Made WorkAnswer)) → GoesOn problem old new → All (AnswersOwn problem queries budget number old) answers
    → All (AnswersOwn problem queries budget number new) answers
answers_stay spent cone problem queries budget number old new answers on all =
    All-weaker (AnswersOwn problem queries budget number old) (AnswersOwn problem queries budget number new)
    (λ answered is.
    some_weaker (λ query. IsAnswerBy problem query budget number old answered.number answered.value) (λ query. IsAnswerBy problem query budget number new answered.number answered.value) (slice_get queries answered.number)
    (λ query own. answer_stays spent cone problem query budget number answered.number old new answered.value on own) is) answers all
