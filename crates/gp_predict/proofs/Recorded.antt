-- A recording that was not read, as the stop of a stage.
use Rattle.std.proofs.Common.{◌≡◌, refl, ap, ℕ, ◌≤◌, List, true}
use Rattle.std.specs.Prelude.{Option, None, Some, Err}
use Rattle.gp_outside.specs.Faults.{Rose}
use Rattle.gp_outside.specs.Folders.{File, HasNone}
use Rattle.gp_base.specs.Results.{or_refused}
use Rattle.gp_window.specs.declared.fault.RecordingFault.{RecordingFault}
use Rattle.gp_window.specs.declared.fault.RecordingFault.TheVariants as recording
use Rattle.gp_window.specs.declared.file_name.FileName.{FileName}
use Rattle.gp_window.specs.FileNames.{path_of}
use Rattle.gp_window.specs.Gives.{StopsAs}
use Rattle.gp_window.specs.Recording.{recording_cause, recording_of}
use Rattle.gp_window.specs.RecordingForm.{RecordingForm}
use Rattle.gp_predict.specs.declared.refusal.Refusal.TheVariants as refusal
use Rattle.gp_predict.specs.declared.stop.Stop.{Stop}
use Rattle.gp_predict.specs.declared.stop.Stop.TheVariants.{Refused}
use Rattle.gp_predict.specs.Content.{recording_at}
use Rattle.gp_predict.specs.Refusal.{recording_refusal}
use Rattle.gp_predict.specs.Refused.{is_absent, stop_of_recording}
use Rattle.gp_predict.specs.Stage.{IsStage, refusal_of}

-- where no files are told, the cause is there
untold : (files : Option (List File)) (name : List ℕ) (Cause : Type 0) → files ≡ None → HasNone files name Cause → Cause
untold None name Cause is has = has
untold (Some files) name Cause is has = absurd (cc)

module _ (directory : List ℕ) (old new : Option (List File)) (before after : ℕ) (later : before ≤ after) (kept : new ≡ old) where
  abbrev Stops : Stop → Type 0
  Stops stop = IsStage {A = RecordingForm} (Err stop) (λ files. StopsAs (refusal_of stop) (recording_at files directory)) old new before after

  named : (fault : RecordingFault) → ((files : List File) → old ≡ Some files → recording_of files directory ≡ Err fault)
      → (is_absent (refusal.Recording fault) ≡ true → old ≡ None → Rose before after) → Stops (Refused (refusal.Recording fault))
  named fault told absent = record {
    later = later;
    kept = kept;
    told = λ files is. ap (or_refused recording_refusal) (told files is);
    fault = λ is. absurd (cc);
    absent = absent;
  }

  pub stopped : (fault : RecordingFault) → ((files : List File) → old ≡ Some files → StopsAs (recording_cause fault) (recording_of files directory))
      → ((other : FileName) → fault ≡ recording.Absent other → HasNone old (path_of directory other) (Rose before after))
      → (fault ≡ recording.ReadFailed → Rose before after) → Stops (stop_of_recording fault)
  stopped (recording.Absent name) told absent failed = named (recording.Absent name) told (λ is none. untold old _ _ none (absent name refl))
  stopped (recording.TooLong name) told absent failed = named (recording.TooLong name) told (λ is. absurd (cc))
  stopped recording.ReadFailed told absent failed =
      record { later = later; kept = kept; told = λ files is. tt; fault = λ _. failed refl; absent = λ is. absurd (cc) }
  stopped (recording.ManifestText fault) told absent failed = named (recording.ManifestText fault) told (λ is. absurd (cc))
  stopped (recording.ManifestLine line) told absent failed = named (recording.ManifestLine line) told (λ is. absurd (cc))
  stopped (recording.Trace thread fault) told absent failed = named (recording.Trace thread fault) told (λ is. absurd (cc))
  stopped (recording.UnknownThread thread) told absent failed = named (recording.UnknownThread thread) told (λ is. absurd (cc))
  stopped (recording.StartsRoot thread) told absent failed = named (recording.StartsRoot thread) told (λ is. absurd (cc))
  stopped (recording.TwoStarts thread) told absent failed = named (recording.TwoStarts thread) told (λ is. absurd (cc))
  stopped (recording.TwoHolders lock window) told absent failed = named (recording.TwoHolders lock window) told (λ is. absurd (cc))
  stopped recording.Memory told absent failed =
      record { later = later; kept = kept; told = λ files is. tt; fault = λ is. absurd (cc); absent = λ is. absurd (cc) }
