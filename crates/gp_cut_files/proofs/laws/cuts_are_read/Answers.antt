use Rattle.gp_cut_files.proofs.CutRead.{cuts_read}
use Rattle.gp_cut_files.proofs.laws.cuts_are_read.Goals as goal

pub returns : goal.returns
returns c = cuts_read c.what_is_read_can_be_spelled.ensures c.cuts_are_recordings.ensures c.recordings_read_again.ensures
