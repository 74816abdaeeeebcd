-- The verdict of the search is the answer, and its turn is the last.
use Rattle.std.proofs.Common.{◌≡◌, ◌∙◌, sym, subst, List, [], ◌∷◌, ◌++◌, length}
use Rattle.gp_derivation.specs.declared.record.Turn.{Turn}
use Rattle.gp_derivation.specs.declared.record.WorkerRecord.{WorkerRecord}
use Rattle.gp_search.specs.Verdict.{turn_of}
use Rattle.gp_workers.specs.declared.work.WorkAnswer.{WorkAnswer}
use Rattle.gp_workers.specs.Worker.{IsAnswerBy, record_of}
use Rattle.gp_workers.proofs.WorkerAnswers.{answer_due}
use Rattle.gp_workers.proofs.worker.Worker.answer.Goals as goal

pub returns-clause-answer : goal.returns-clause-answer
returns-clause-answer g c =
    let old = c.args.self.now in
    let own : WorkerRecord = record_of (record { number = old.number; search = c.ask.new.self; turns = c.push.new.self }) in
    let P : WorkAnswer → Type 0 = λ answer. IsAnswerBy old.search.problem c.args.query.now c.args.budget old.number own c.args.ticket answer in
    let last : own.turns ≡ old.turns.items ++ turn_of c.args.ticket (length old.search.log) c.ask.new.self.learned (length own.log) ∷ [] =
    ◌∙◌ {A = List Turn} c.in-Ok.ensures.items (λ i. old.turns.items ++ turn_of c.args.ticket (length (c.log.ensures i)) (c.learned_from-learned.ensures i) (length (c.log-2.ensures i)) ∷ []) in
    subst P (sym c.answer_of.ensures)
    (answer_due old.search.problem c.args.query.now c.args.budget old.number c.args.ticket (length old.search.log) c.ask.new.self.learned own old.turns.items c.in_ok-verdict.verdict last c.in_ok-verdict.ensures.verdict)
