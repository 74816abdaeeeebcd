use Rattle.gp_agreement.proofs.Submitted.{told_accepted}
use Rattle.gp_agreement.proofs.laws.told_is_accepted.Goals as goal

pub returns : goal.returns
returns c = told_accepted c.reports_read_again.ensures c.checks_are_exact.ensures c.compact_keeps_acceptance.ensures c.answered_is_accepted.ensures c.resumed_is_accepted.ensures
