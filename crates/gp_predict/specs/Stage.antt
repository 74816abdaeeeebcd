-- What a stage of the top call did with its folder, and what it gave, against the definition of what is due.
use Rattle.std.specs.Prelude.{ℕ, ◌≡◌, ◌≤◌, true, List, Option, Some, None, Result, Err}
use Rattle.gp_outside.specs.Faults.{Rose}
use Rattle.gp_outside.specs.Folders.{File}
use Rattle.gp_predict.specs.declared.reply.Reply.{Reply}
use Rattle.gp_predict.specs.declared.stop.Stop.{Stop}
use Rattle.gp_predict.specs.declared.stop.Stop.TheVariants.{Refused, FolderFailed, Memory}
use Rattle.gp_predict.specs.Refused.{reply_of, stops_absent}

-- what a stop says of the files: a refusal; a fault of the folder and want of memory say nothing
abbrev pub refusal_of : Stop → Option Reply
refusal_of (Refused why) = Some (reply_of why)
refusal_of FolderFailed = None
refusal_of Memory = None

-- the frame of each stage: the count of faults never falls; the files stay; where they are told, what is due by them is met; and
-- where the folder failed, or an absent file has no files that are told to show for it, the count rose
pub record IsStage {A : Type 0} (result : Result A Stop) (Due : List File → Type 0) (old new : Option (List File)) (before after : ℕ) : Type 0 where
  pub later : before ≤ after
  pub kept : new ≡ old
  pub told : (files : List File) → old ≡ Some files → Due files
  pub fault : result ≡ Err FolderFailed → Rose before after
  pub absent : stops_absent result ≡ true → old ≡ None → Rose before after
