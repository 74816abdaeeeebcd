use Rattle.gp_report.proofs.Plain.{reports_are_plain_lem}
use Rattle.gp_report.proofs.laws.reports_are_plain.Goals as goal

pub returns : goal.returns
returns c = reports_are_plain_lem c.plain_words.ensures c.reads_again.ensures
