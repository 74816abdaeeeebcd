-- What is written of a recording is read as the recording.
use Rattle.std.specs.Prelude.{ℕ, ◌≡◌, ◌+◌, ◌<◌, ◌≤◌, List, length, All, Some, Ok}
use Rattle.gp_cut.specs.Cut.{cut_of}
use Rattle.gp_cut.specs.Laws.{FitsFormat}
use Rattle.gp_files.specs.MadeFileForm.{MadeFileForm}
use Rattle.gp_files.specs.Writing.{files_at}
use Rattle.gp_outside.specs.Folders.{File, file_named}
use Rattle.gp_window.specs.FileNames.{limit_of}
use Rattle.gp_window.specs.Grammar.{IsStartValue}
use Rattle.gp_window.specs.Recording.{recording_of}
use Rattle.gp_window.specs.RecordingForm.{IsRecording, RecordingForm}
use Rattle.gp_cut_files.specs.CutFiles.{cut_files, recording_files}

-- a recording that lines can spell: its variables are names, its values have their width, and its events belong to its format
pub record CanBeSpelled (r : RecordingForm) : Type 0 where
  pub rules : IsRecording r
  pub values : All IsStartValue r.manifest.values
  pub format : FitsFormat r

-- each of these files stands with its text in this directory, and none has more bytes than its limit
pub record StandIn (files : List File) (directory : List ℕ) (made : List MadeFileForm) : Type 0 where
  pub texts : All (λ (file : File). file_named files file.name ≡ Some file.bytes) (files_at directory made)
  pub fit : All (λ (file : MadeFileForm). length file.text ≤ limit_of file.name) made

-- a recording that was read can be spelled
abbrev pub WhatIsReadCanBeSpelled : Type 0
WhatIsReadCanBeSpelled = (files : List File) (directory : List ℕ) (r : RecordingForm) → recording_of files directory ≡ Ok r → CanBeSpelled r

-- the files of a recording that can be spelled are read as the recording
abbrev pub RecordingReadsAgain : Type 0
RecordingReadsAgain = (files : List File) (directory : List ℕ) (r : RecordingForm) → CanBeSpelled r → StandIn files directory (recording_files r)
    → recording_of files directory ≡ Ok r

-- windows that are cut out of a recording that was read are read from their files as the recording that they are
abbrev pub CutsAreRead : Type 0
CutsAreRead = (source files : List File) (from out : List ℕ) (r : RecordingForm) (before count : ℕ) → recording_of source from ≡ Ok r
    → before + count ≤ r.manifest.epochs → count < 4096 → StandIn files out (cut_files before count r)
    → recording_of files out ≡ Ok (cut_of before count r)
