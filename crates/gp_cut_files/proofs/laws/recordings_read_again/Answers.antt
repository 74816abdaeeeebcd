use Rattle.gp_cut_files.proofs.RecordingAgain.{recording_again}
use Rattle.gp_cut_files.proofs.laws.recordings_read_again.Goals as goal

pub returns : goal.returns
returns c = recording_again c.manifests_read_again.ensures c.trace_reads_again.ensures
