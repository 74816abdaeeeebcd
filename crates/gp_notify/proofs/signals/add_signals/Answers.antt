use Rattle.gp_notify.proofs.Fit.{signals_signed}
use Rattle.gp_notify.proofs.signals.add_signals.Goals as goal

pub returns-in_err-tables-clause-signed : goal.returns-in_err-tables-clause-signed
returns-in_err-tables-clause-signed c = signals_signed c.args.window.now

pub returns-clause-signed : goal.returns-clause-signed
returns-clause-signed c = signals_signed c.args.window.now
