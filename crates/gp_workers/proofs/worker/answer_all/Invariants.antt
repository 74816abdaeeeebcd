use Rattle.std.proofs.Common.{◌≡◌, ◌-◌, length}
use Rattle.gp_tickets.specs.Tickets.{hand_of, IsSingle}
use Rattle.gp_workers.specs.Worker.{HasWorked}
use Rattle.gp_workers.proofs.worker.answer_all.Given as goal

abbrev pub decreases-loop-ticket : goal.decreases-loop-ticket
decreases-loop-ticket g l = length l.load.queries.now - length (hand_of l.drawer).drawn

abbrev pub invariant-loop-ticket : goal.invariant-loop-ticket
invariant-loop-ticket g l = record {
  number : l.worker.number ≡ l.fn.worker.number;
  mail : g.M.Mail.problem l.mail ≡ l.worker.search.problem;
  mail_number : g.M.Mail.number l.mail ≡ g.M.Mail.number l.fn.mail;
  single : IsSingle l.load.tickets.now 0 l.drawer;
  worked : HasWorked l.fn.worker.search.problem l.load.queries.now l.load.budget (hand_of l.drawer).drawn l.worker l.answers.items (g.M.Mail.told l.mail);
}
