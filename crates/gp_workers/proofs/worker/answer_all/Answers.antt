-- Each ticket that is drawn is answered in one turn more.
use Rattle.std.proofs.Common.{◌≡◌, ◌∙◌, sym, ap, subst, ℕ, List, []}
use Rattle.gp_tickets.specs.declared.hand.Hand.{Hand}
use Rattle.gp_tickets.specs.Tickets.{hand_of}
use Rattle.gp_workers.specs.Worker.{HasWorked}
use Rattle.gp_tickets.specs.Hand.{drew}
use Rattle.gp_tickets.specs.TicketLaws.{still_single}
use Rattle.gp_workers.proofs.WorkerTurns.{nothing_yet}
use Rattle.gp_workers.proofs.worker.answer_all.Goals as goal

pub loop-ticket-init : goal.loop-ticket-init
loop-ticket-init g c =
    let worker = c.args.worker.now in
    let queries = c.args.load.now.queries.now in
    record {
      number = c.in_ok-answer_one.ensures.number;
      mail = c.in_ok-answer_one.ensures.problem;
      mail_number = c.in_ok-answer_one.ensures.mail_number;
      single = c.requires.drawer;
      worked = subst (λ (ns : List ℕ). HasWorked worker.search.problem queries c.args.load.now.budget ns c.answer_one.new.worker c.answer_one.new.answers.items (g.M.Mail.told c.answer_one.new.mail)) (sym c.requires.first)
          (c.in_ok-answer_one.ensures.worked worker.search.problem [] (subst (λ rs. HasWorked worker.search.problem queries c.args.load.now.budget [] worker rs (g.M.Mail.told c.args.mail.now)) (sym c.requires.none)
          (nothing_yet queries c.args.load.now.budget worker (g.M.Mail.told c.args.mail.now) c.requires.fresh c.requires.silent)));
    }

pub loop-ticket-preserved : goal.loop-ticket-preserved
loop-ticket-preserved g c =
    let old = c.loop-ticket.drawer in
    let new = c.draw.new.drawer in
    let ticket = c.in-Some.ticket in
    let problem = c.args.worker.now.search.problem in
    let is : hand_of new ≡ drew (hand_of old) ticket = (c.in-Some.ensures.first c.loop-ticket.invariant.single.told).1 in
    record {
      number = c.in_ok-answer_one-2.ensures.number ∙ c.loop-ticket.invariant.number;
      mail = c.in_ok-answer_one-2.ensures.problem;
      mail_number = c.in_ok-answer_one-2.ensures.mail_number ∙ c.loop-ticket.invariant.mail_number;
      single = still_single c.args.load.now.tickets.now old new ticket c.loop-ticket.invariant.single c.in-Some.ensures.drawer is;
      worked = subst (λ (ns : List ℕ). HasWorked problem c.args.load.now.queries.now c.args.load.now.budget ns c.answer_one-in-Some.new.worker c.answer_one-in-Some.new.answers.items (g.M.Mail.told c.answer_one-in-Some.new.mail)) (sym (ap (λ (h : Hand). h.drawn) is))
          (c.in_ok-answer_one-2.ensures.worked problem (hand_of old).drawn c.loop-ticket.invariant.worked);
    }
