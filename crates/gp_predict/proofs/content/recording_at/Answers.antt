-- What was not read stops the stage.
use Rattle.std.proofs.Common.{sym, subst, ap}
use Rattle.std.specs.Prelude.{Err}
use Rattle.gp_window.specs.Gives.{StopsAs}
use Rattle.gp_window.specs.RecordingForm.{RecordingForm}
use Rattle.gp_predict.specs.declared.stop.Stop.{Stop}
use Rattle.gp_predict.specs.Content.{recording_at}
use Rattle.gp_predict.specs.Stage.{IsStage, refusal_of}
use Rattle.gp_predict.proofs.Recorded.{stopped}
use Rattle.gp_predict.proofs.content.recording_at.Goals as goal

pub returns-in-Err : goal.returns-in-Err
returns-in-Err g c =
    let stage =
    subst (λ (stop : Stop). IsStage {A = RecordingForm} (Err stop) (λ files. StopsAs (refusal_of stop) (recording_at files c.args.directory.now)) (g.F.Folder.files c.args.folder.now) (g.F.Folder.files c.read_recording.new.folder) (g.F.Folder.faults c.args.folder.now) (g.F.Folder.faults c.read_recording.new.folder))
    (sym c.stop_of_recording.ensures.value)
    (stopped c.args.directory.now (g.F.Folder.files c.args.folder.now) (g.F.Folder.files c.read_recording.new.folder) (g.F.Folder.faults c.args.folder.now) (g.F.Folder.faults c.read_recording.new.folder)
    c.in-Err.ensures.later c.in-Err.ensures.kept c.in-Err.fault c.in-Err.ensures.told (λ other is. c.in-Err.ensures.absent other (ap Err is)) (λ is. c.in-Err.ensures.fault (ap Err is))) in record { stage = stage; limit = c.stop_of_recording.ensures.limit }
