use Rattle.gp_cut.proofs.Whole.{windows_same}
use Rattle.gp_cut.proofs.laws.cut_windows_are_the_same.Goals as goal

pub returns : goal.returns
returns c = windows_same
