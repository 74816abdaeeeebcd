use Rattle.gp_cut.proofs.Whole.{cuts_are_recordings}
use Rattle.gp_cut.proofs.laws.cuts_are_recordings.Goals as goal

pub returns : goal.returns
returns c = cuts_are_recordings c.starts_mean.ensures c.marks_mean.ensures
