use Rattle.gp_cut_files.proofs.WasRead.{was_read}
use Rattle.gp_cut_files.proofs.laws.what_is_read_can_be_spelled.Goals as goal

pub returns : goal.returns
returns c = was_read c.manifests_are_spelled.ensures c.traces_fit.ensures
