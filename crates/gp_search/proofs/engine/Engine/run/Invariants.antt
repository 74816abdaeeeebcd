use Rattle.std.proofs.Common.{◌≡◌}
use Rattle.gp_search.specs.Moves.{AddsAndOffers, StaysTurning}
use Rattle.gp_search.proofs.engine.Engine.run.Given as goal

abbrev pub invariant-loop : goal.invariant-loop
invariant-loop g l = record {
  turning : StaysTurning l.asked.problem.now l.asked.query.now l.fn.self l.self;
  mail : (g.M.Mail.problem l.mail ≡ g.M.Mail.problem l.fn.mail) × (g.M.Mail.number l.mail ≡ g.M.Mail.number l.fn.mail) × (g.M.Mail.may_give l.mail ≡ g.M.Mail.may_give l.fn.mail);
  adds : AddsAndOffers l.asked.problem.now l.counter l.fn.self l.self (g.M.Mail.told l.fn.mail) (g.M.Mail.told l.mail);
}
