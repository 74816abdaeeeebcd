use Rattle.gp_report.proofs.ReadExactly.{read_again_lem}
use Rattle.gp_report.proofs.laws.reports_read_again.Goals as goal

pub returns : goal.returns
returns c = read_again_lem c.one_spelling.ensures c.event_ids_read_exactly.ensures c.reports_are_plain.ensures
