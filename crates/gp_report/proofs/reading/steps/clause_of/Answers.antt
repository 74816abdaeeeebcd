use Rattle.gp_report.proofs.Rising.{rising_from_test}
use Rattle.gp_report.proofs.reading.steps.clause_of.Goals as goal

pub of_rising-requires : goal.of_rising-requires
of_rising-requires c = rising_from_test c.args.lits.items c.requires
