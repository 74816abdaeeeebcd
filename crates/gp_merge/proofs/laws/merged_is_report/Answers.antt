use Rattle.gp_merge.proofs.Told.{merged_told}
use Rattle.gp_merge.proofs.laws.merged_is_report.Goals as goal

pub returns : goal.returns
returns c = merged_told
