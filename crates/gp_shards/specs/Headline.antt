-- What a cut and a merge are for: the folder of a part holds a recording whose windows are windows of the whole, and a report that is merged
-- is accepted for the whole.
use Rattle.std.specs.Prelude.{ℕ, ◌≡◌, ◌+◌, ◌≤◌, List, Option, None, Some, Ok}
use Rattle.gp_checker.specs.Accepted.{IsAccepted}
use Rattle.gp_checker.specs.Sound.{AnswersAreTrue}
use Rattle.gp_cut.specs.Cut.{cut_of}
use Rattle.gp_files.specs.Writing.{WhereTold}
use Rattle.gp_merge.specs.Merge.{AreInRow}
use Rattle.gp_outside.specs.Folders.{File}
use Rattle.gp_property.specs.PropertyForm.{PropertyForm}
use Rattle.gp_property.specs.Reading.{properties_of}
use Rattle.gp_report.specs.ReportForm.{ReportForm}
use Rattle.gp_shard.specs.declared.shard.Shard.{Shard}
use Rattle.gp_window.specs.Contents.{content_of}
use Rattle.gp_window.specs.declared.file_name.FileName.TheVariants.{Properties}
use Rattle.gp_window.specs.Recording.{recording_of}
use Rattle.gp_window.specs.RecordingForm.{RecordingForm}
use Rattle.gp_window.specs.WindowForm.{window_of}
use Rattle.gp_words.specs.Sharding.{Cut, CutForm, Merge, MergeForm, ShardForm}
use Rattle.gp_shards.specs.Cutting.{shard_of}
use Rattle.gp_shards.specs.Merging.{parts_in, shard_in, whole_of}
use Rattle.gp_shards.specs.declared.merging.AllParts.{AllParts}

-- each window behind the stage is the window of the recording that it stands for, in everything but its number
abbrev pub WindowsAreTheSame : RecordingForm → Shard → Type 0
WindowsAreTheSame r shard = (number : ℕ) → 1 ≤ number → number ≤ shard.count
    → window_of (cut_of shard.before shard.count r) (number + 1) ≡ record (window_of r (shard.before + number)) { number = number + 1 }

-- a part was cut out of the recording in a folder: what its own folder holds is read as the part's windows behind their stage, with the
-- same properties, and says which part it is
pub record IsCutOut (cut : CutForm) (before after : List File) : Type 0 where
  pub recording : RecordingForm
  pub whole : recording_of before cut.folder ≡ Ok recording
  pub read : let shard = shard_of recording cut.part cut.parts in recording_of after cut.out ≡ Ok (cut_of shard.before shard.count recording)
  pub windows : WindowsAreTheSame recording (shard_of recording cut.part cut.parts)
  pub properties : content_of after cut.out Properties ≡ content_of before cut.folder Properties
  pub shard : shard_in after cut.out ≡ Ok (shard_of recording cut.part cut.parts)

-- a report is the one of all parts of the recording in a folder, which follow one another from its first window to its last; it is accepted
-- for that recording with the properties beside it, whatever the folders of the parts hold, so that each of its answers is true there
pub record IsOfAllParts (merge : MergeForm) (files : List File) (report : ReportForm) : Type 0 where
  pub recording : RecordingForm
  pub whole : recording_of files merge.folder ≡ Ok recording
  pub text : List ℕ
  pub props : content_of files merge.folder Properties ≡ Ok text
  pub properties : List PropertyForm
  pub spelled : properties_of text ≡ Ok properties
  pub all : AllParts
  pub reports : parts_in files recording merge.outs ≡ Ok all
  pub row : AreInRow 0 all.parts recording.manifest.epochs
  pub merged : report ≡ whole_of all.parts
  pub accepted : IsAccepted recording properties report
  pub sound : AnswersAreTrue recording properties report

-- what a command wrote, where the files are told
abbrev pub WhereCut : Option ShardForm → Option (List File) → Option (List File) → Type 0
WhereCut (Some (Cut cut)) before after = WhereTold before after (IsCutOut cut)
WhereCut (Some (Merge merge)) before after = Unit {0}
WhereCut None before after = Unit {0}

-- which report a command told, where the files are told
abbrev pub OfAllParts : MergeForm → Option (List File) → ReportForm → Type 0
OfAllParts merge None report = Unit {0}
OfAllParts merge (Some files) report = IsOfAllParts merge files report

abbrev pub WhereMerged : Option ShardForm → Option (List File) → ReportForm → Type 0
WhereMerged (Some (Merge merge)) files report = OfAllParts merge files report
WhereMerged (Some (Cut cut)) files report = Unit {0}
WhereMerged None files report = Unit {0}
