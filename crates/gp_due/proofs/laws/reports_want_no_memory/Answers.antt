use Rattle.gp_due.proofs.Reports.{reports_say}
use Rattle.gp_due.proofs.laws.reports_want_no_memory.Goals as goal

pub returns : goal.returns
returns c = reports_say
