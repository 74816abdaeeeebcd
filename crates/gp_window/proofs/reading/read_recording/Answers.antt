-- Once all files are read, none is absent.
use Rattle.std.proofs.Common.{◌∙◌, sym}
use Rattle.gp_window.proofs.NoFile.{no_file}
use Rattle.gp_window.proofs.reading.read_recording.Goals as goal

pub returns-in-Ok-clause-absent : goal.returns-in-Ok-clause-absent
returns-in-Ok-clause-absent g c = λ other is. absurd (no_file c.in_ok-manifest.manifest c.as_slice.result.now other (sym (c.recording_with-read.ensures.due (λ memory. cc)) ∙ is))
