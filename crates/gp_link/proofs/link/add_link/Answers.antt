use Rattle.gp_link.proofs.Fit.{clauses_signed}
use Rattle.gp_link.proofs.link.add_link.Goals as goal

pub returns-in_err-last_events-clause-signed : goal.returns-in_err-last_events-clause-signed
returns-in_err-last_events-clause-signed c = clauses_signed c.args.window.now c.args.next.now

pub returns-in_err-variables-clause-signed : goal.returns-in_err-variables-clause-signed
returns-in_err-variables-clause-signed c = clauses_signed c.args.window.now c.args.next.now

pub returns-clause-signed : goal.returns-clause-signed
returns-clause-signed c = clauses_signed c.args.window.now c.args.next.now
