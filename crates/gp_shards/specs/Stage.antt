-- What a stage of a cut or of a merge did with the folder, and what it gave, against the definition of what is due.
use Rattle.std.specs.Prelude.{ℕ, ◌≡◌, ◌≢◌, ◌≤◌, Bool, true, false, List, Option, Some, None, Result, Ok, Err}
use Rattle.gp_outside.specs.Faults.{Rose}
use Rattle.gp_outside.specs.Folders.{File}
use Rattle.gp_predict.specs.declared.reply.Reply.{Reply}
use Rattle.gp_predict.specs.declared.stop.Stop.{Stop}
use Rattle.gp_predict.specs.declared.stop.Stop.TheVariants as usual
use Rattle.gp_predict.specs.Refused.{is_absent, is_limit}
use Rattle.gp_window.specs.declared.content.ContentFault.TheVariants.{Absent}
use Rattle.gp_window.specs.Gives.{Gives}
use Rattle.gp_shards.specs.declared.refusal.PartFault.{PartFault}
use Rattle.gp_shards.specs.declared.refusal.PartFault.TheVariants.{Content}
use Rattle.gp_shards.specs.declared.refusal.ShardRefusal.{ShardRefusal}
use Rattle.gp_shards.specs.declared.refusal.ShardRefusal.TheVariants as refusal
use Rattle.gp_shards.specs.declared.stop.ShardStop.{ShardStop}
use Rattle.gp_shards.specs.declared.stop.ShardStop.TheVariants.{Refused, FolderFailed, Memory}
use Rattle.gp_shards.specs.Refusing.{part_refusal, shard_reply}

-- a stop of one of gpredict's stages
abbrev pub stop_of : Stop → ShardStop
stop_of (usual.Refused why) = Refused (refusal.Usual why)
stop_of usual.FolderFailed = FolderFailed
stop_of usual.Memory = Memory

-- what a stop says of the files: a refusal; a fault of the folder and want of memory say nothing
abbrev pub refusal_of : ShardStop → Option Reply
refusal_of (Refused why) = Some (shard_reply why)
refusal_of FolderFailed = None
refusal_of Memory = None

-- whether a fault in the folder of a part is that a file is absent
abbrev pub is_absent_in : PartFault → Bool
is_absent_in (Content (Absent name)) = true
is_absent_in _ = false

-- whether a refusal says that a file is absent
abbrev pub is_absence : ShardRefusal → Bool
is_absence (refusal.Usual why) = is_absent why
is_absence (refusal.InPart folder fault) = is_absent_in fault
is_absence (refusal.Missing number) = false

-- whether a stage stopped since a file is absent
abbrev pub stops_absent : {A : Type 0} → Result A ShardStop → Bool
stops_absent (Ok value) = false
stops_absent (Err (Refused why)) = is_absence why
stops_absent (Err FolderFailed) = false
stops_absent (Err Memory) = false

-- whether a refusal is that too much work is asked, which none of the stages asks
abbrev pub is_work : ShardRefusal → Bool
is_work (refusal.Usual why) = is_limit why
is_work (refusal.InPart folder fault) = false
is_work (refusal.Missing number) = false

-- whether a stop is that
abbrev pub is_at_limit : ShardStop → Bool
is_at_limit (Refused why) = is_work why
is_at_limit FolderFailed = false
is_at_limit Memory = false

-- whether a stage stopped so
abbrev pub stops_at_limit : {A : Type 0} → Result A ShardStop → Bool
stops_at_limit (Ok value) = false
stops_at_limit (Err stop) = is_at_limit stop

-- the frame of each stage that reads: the count of faults never falls; the files stay; where they are told, what is due by them is met;
-- and where the folder failed, or an absent file has no files that are told to show for it, the count rose
pub record IsShardStage {A : Type 0} (result : Result A ShardStop) (Due : List File → Type 0) (old new : Option (List File)) (before after : ℕ) : Type 0 where
  pub later : before ≤ after
  pub kept : new ≡ old
  pub told : (files : List File) → old ≡ Some files → Due files
  pub fault : result ≡ Err FolderFailed → Rose before after
  pub absent : stops_absent result ≡ true → old ≡ None → Rose before after
  pub limit : stops_at_limit result ≡ false

-- the frame of a refusal in the folder of a part, or of want of memory for it
pub record IsRefusedIn {A : Type 0} (result : Result A ShardStop) (folder : List ℕ) (fault : PartFault) : Type 0 where
  pub given : Gives refusal_of result (Err (part_refusal folder fault))
  pub no_fault : result ≢ Err FolderFailed
  pub absent : stops_absent result ≡ true → is_absent_in fault ≡ true
  pub present : is_absent_in fault ≡ false → stops_absent result ≡ false
  pub limit : stops_at_limit result ≡ false

-- the frame of each step that does not touch the folder: it gives what is due, and it stops at no fault of the folder, and for no file
-- that is absent
pub record IsShardStep {A : Type 0} (result : Result A ShardStop) (due : Result A Reply) : Type 0 where
  pub given : Gives refusal_of result due
  pub no_fault : result ≢ Err FolderFailed
  pub present : stops_absent result ≡ false
  pub limit : stops_at_limit result ≡ false
