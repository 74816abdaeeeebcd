use Rattle.gp_cut.proofs.Parted.{parts_are_whole}
use Rattle.gp_cut.proofs.laws.parts_are_whole.Goals as goal

pub returns : goal.returns
returns c = parts_are_whole
