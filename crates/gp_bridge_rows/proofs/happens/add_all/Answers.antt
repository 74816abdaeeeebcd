use Rattle.gp_bridge_rows.proofs.Clauses.{signed_happens}
use Rattle.gp_bridge_rows.proofs.happens.add_all.Goals as goal

pub returns-in_err-add_at-clause-signed : goal.returns-in_err-add_at-clause-signed
returns-in_err-add_at-clause-signed c = signed_happens c.args.event c.args.points.now

pub returns-clause-signed : goal.returns-clause-signed
returns-clause-signed c = signed_happens c.args.event c.args.points.now
