use Rattle.gp_notify.proofs.Chosen.{no_signals}
use Rattle.gp_notify.proofs.notify_problem.NotifyProblem.signals_for.Goals as goal

pub returns-in_default : goal.returns-in_default
returns-in_default c = no_signals c.args.self.now c.args.call.now c.in_default.not-Wake
