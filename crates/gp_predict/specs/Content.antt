-- What the folder holds: the bytes of an input file, and the recording.
use Rattle.std.specs.Prelude.{ℕ, List, Result}
use Rattle.gp_outside.specs.Folders.{File}
use Rattle.gp_base.specs.Results.{or_refused}
use Rattle.gp_window.specs.Contents.{content_of}
use Rattle.gp_window.specs.Recording.{recording_of}
use Rattle.gp_window.specs.RecordingForm.{RecordingForm}
use Rattle.gp_window.specs.declared.file_name.FileName.{FileName}
use Rattle.gp_predict.specs.declared.reply.Reply.{Reply}
use Rattle.gp_predict.specs.Refusal.{content_refusal, recording_refusal}

-- the bytes of an input file in the folder, where it is there and not too long
abbrev pub content_at : List File → List ℕ → FileName → Result (List ℕ) Reply
content_at files folder file = or_refused content_refusal (content_of files folder file)

-- the recording in the folder
abbrev pub recording_at : List File → List ℕ → Result RecordingForm Reply
recording_at files folder = or_refused recording_refusal (recording_of files folder)
