use Rattle.gp_report.proofs.ReadExactly.{reads_exactly_lem}
use Rattle.gp_report.proofs.laws.reads_exactly.Goals as goal

pub returns : goal.returns
returns c = reads_exactly_lem c.one_spelling.ensures c.event_ids_read_exactly.ensures
