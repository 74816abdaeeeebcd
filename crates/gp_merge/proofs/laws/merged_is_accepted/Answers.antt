use Rattle.gp_merge.proofs.Whole.{merged_accepted}
use Rattle.gp_merge.proofs.laws.merged_is_accepted.Goals as goal

pub returns : goal.returns
returns c = merged_accepted c.cut_windows_are_the_same.ensures
