-- What is left of the files.
use Rattle.std.specs.Prelude.{ℕ, ◌≡◌, ◌≢◌, ◌⊎◌, true, List, [], Option, None, Some, Result, Ok, Err}
use Rattle.gp_files.specs.Writing.{AreAllMade, AreKeptOrMade, AreMadeInOrder, AreSomeMade, WhereTold, files_at}
use Rattle.gp_outside.specs.Folders.{File}
use Rattle.gp_predict.specs.declared.reply.Reply.{Reply}
use Rattle.gp_words.specs.Sharding.{Cut, CutForm, Merge, ShardForm}
use Rattle.gp_shards.specs.declared.cutting.Cutting.{Cutting}
use Rattle.gp_shards.specs.Cutting.{cutting_at}
use Rattle.gp_shards.specs.Sparing.{holds_recording}

-- the files that a cut makes in this folder: none where it is refused
abbrev pub made_in : List ℕ → Result Cutting Reply → List File
made_in out (Ok cutting) = files_at out cutting.files
made_in out (Err refusal) = []

-- at status 0 all files are made; where the cut is refused, all is as before; where the folder failed, so it is, or one of the files
-- may hold anything; and all else is as before. However it ends, the files are made in their order, of which `shard` is the last
pub record IsLeft (made : List File) (status : ℕ) (before after : List File) : Type 0 where
  pub all : status ≡ 0 → AreAllMade made before after
  pub refused : status ≡ 3 → after ≡ before
  pub failed : status ≡ 4 → (after ≡ before) ⊎ AreSomeMade made before after
  pub others : status ≢ 4 → AreKeptOrMade made before after
  pub order : AreMadeInOrder made before after

-- what a cut leaves, by its status; where its folder holds a recording that is no part, all is as before, however it ends
pub record LeavesPart (cut : CutForm) (status : ℕ) (before after : List File) : Type 0 where
  pub left : IsLeft (made_in cut.out (cutting_at before cut)) status before after
  pub spared : holds_recording before cut.out ≡ true → after ≡ before

-- what is left by a command; a merge changes nothing
abbrev pub LeavesBy : ShardForm → ℕ → Option (List File) → Option (List File) → Type 0
LeavesBy (Cut cut) status before after = WhereTold before after (LeavesPart cut status)
LeavesBy (Merge merge) status before after = after ≡ before

-- what is left of the files: all as they were, but for what a command makes
abbrev pub LeavesFiles : Option ShardForm → ℕ → Option (List File) → Option (List File) → Type 0
LeavesFiles None status before after = after ≡ before
LeavesFiles (Some command) status before after = LeavesBy command status before after
