-- The query of a ticket is answered in one turn more.
use Rattle.std.proofs.Common.{◌≡◌, refl, Some, get_or}
use Rattle.std.specs.List.{slice_get}
use Rattle.std.proofs.lemmas.Option.{slice_get-get_or}
use Rattle.gp_workers.proofs.WorkerTurns.{one_more}
use Rattle.gp_workers.proofs.worker.answer_one.Goals as goal

pub returns-clause-worked : goal.returns-clause-worked
returns-clause-worked g c problem drawn worked =
    let queries = c.args.load.now.queries.now in
    let query = get_or queries c.args.ticket c.index-load-ticket.result in
    let at : slice_get queries c.args.ticket ≡ Some query = slice_get-get_or queries c.args.ticket c.index-load-ticket.result c.requires.ticket in
    one_more c.spent_stays.ensures c.cone_of_stays.ensures c.fit_stays.ensures problem queries c.args.load.now.budget drawn _ query c.args.ticket c.args.worker.now c.answer.new.self c.args.answers.now.items c.push.new.self.items c.in_ok-answer.answer
    (g.M.Mail.may_give c.args.mail.now) (g.M.Mail.told c.args.mail.now) (g.M.Mail.told c.answer.new.mail)
    refl c.in_ok-push.ensures.items at worked c.in_ok-answer.ensures.turn c.requires.tells c.in_ok-answer.ensures.none_taken c.in_ok-answer.ensures.answer
