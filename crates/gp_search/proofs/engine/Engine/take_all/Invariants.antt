use Rattle.std.proofs.Common.{◌≡◌, false}
use Rattle.gp_search.specs.Inside.{IsTaking}
use Rattle.gp_search.specs.Moves.{HasTaken}
use Rattle.gp_search.proofs.engine.Engine.take_all.Given as goal

abbrev pub invariant-loop : goal.invariant-loop
invariant-loop g l = record {
  taking : IsTaking l.asked.problem.now l.asked.query.now l.self;
  problem : g.M.Mail.problem l.mail ≡ g.M.Mail.problem l.fn.mail;
  number : g.M.Mail.number l.mail ≡ g.M.Mail.number l.fn.mail;
  may_give : g.M.Mail.may_give l.mail ≡ g.M.Mail.may_give l.fn.mail;
  none : g.M.Mail.may_give l.fn.mail ≡ false → l.self.log.items ≡ l.fn.self.log.items;
  taken : HasTaken l.counter l.fn.self l.self (g.M.Mail.told l.fn.mail) (g.M.Mail.told l.mail);
}
