-- What the worker did is what it hands back.
use Rattle.std.proofs.Common.{◌∙◌, sym, subst}
use Rattle.gp_clause.specs.declared.problem.Problem.{Problem}
use Rattle.gp_derivation.specs.declared.record.WorkerRecord.{WorkerRecord}
use Rattle.gp_tickets.specs.Tickets.{hand_of}
use Rattle.gp_workers.specs.Worker.{HasWorked}
use Rattle.gp_workers.specs.Mail.{SharesSoFar}
use Rattle.gp_workers.proofs.WorkerTurns.{is_done}
use Rattle.gp_workers.proofs.worker.work.Goals as goal

pub returns-in-Ok-clause-done : goal.returns-in-Ok-clause-done
returns-in-Ok-clause-done g c =
    let worker = c.answer_drawn.new.worker in
    let drawer = c.answer_drawn.new.drawer in
    let told = g.M.Mail.told c.answer_drawn.new.mail in
    let worked : HasWorked c.args.load.now.problem.now c.args.load.now.queries.now c.args.load.now.budget (hand_of drawer).drawn worker c.in-Ok.made.items told =
    subst (λ (p : Problem). HasWorked p c.args.load.now.queries.now c.args.load.now.budget (hand_of drawer).drawn worker c.in-Ok.made.items told) c.in_ok-worker.ensures.problem c.in-Ok.ensures.worked in
    is_done c.certificate_follows.ensures c.args.load.now.tickets.now c.args.load.now.problem.now c.args.load.now.queries.now c.args.load.now.budget c.args.job.number worker _ told c.requires.asked.valid c.in-Ok.ensures.drawer worked (c.in-Ok.ensures.number ∙ c.in_ok-worker.ensures.number) c.into_record-record.ensures

pub returns-in-Ok-clause-shares : goal.returns-in-Ok-clause-shares
returns-in-Ok-clause-shares g c =
    let worker = c.answer_drawn.new.worker in
    let drawer = c.answer_drawn.new.drawer in
    let told = g.M.Mail.told c.answer_drawn.new.mail in
    let worked : HasWorked c.args.load.now.problem.now c.args.load.now.queries.now c.args.load.now.budget (hand_of drawer).drawn worker c.in-Ok.made.items told =
    subst (λ (p : Problem). HasWorked p c.args.load.now.queries.now c.args.load.now.budget (hand_of drawer).drawn worker c.in-Ok.made.items told) c.in_ok-worker.ensures.problem c.in-Ok.ensures.worked in
    subst (λ (own : WorkerRecord). SharesSoFar c.args.load.now.problem.now own.log told) (sym c.into_record-record.ensures) worked.shares
