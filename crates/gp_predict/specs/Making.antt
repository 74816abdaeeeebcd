-- What task make leaves in the folder, and what it writes.
use Rattle.std.specs.Prelude.{ℕ, ◌≡◌, ◌≢◌, ◌++◌, List, Option, None, Some, codes, decimal}
use Rattle.gp_make.specs.declared.recipe.Recipe.{Recipe}
use Rattle.gp_make.specs.Run.{windows_of}
use Rattle.gp_files.specs.Writing.{AreAllMade, AreKeptOrMade, AreSomeMade, WhereTold}
use Rattle.gp_make.specs.Writing.{made_at}
use Rattle.gp_outside.specs.Folders.{File}
use Rattle.gp_words.specs.declared.task.Task.{Task}
use Rattle.gp_words.specs.declared.task.Task.TheVariants as task
use Rattle.gp_words.specs.Command.{CommandForm}
use Rattle.gp_predict.specs.declared.reply.Reply.{Reply}
use Rattle.gp_predict.specs.declared.stop.Stop.{Stop}
use Rattle.gp_predict.specs.declared.stop.Stop.TheVariants.{Refused, FolderFailed, Memory}
use Rattle.gp_predict.specs.Asking.{recipe_of}
use Rattle.gp_predict.specs.Refusal.{one_line}

-- so many threads, events and windows were made
abbrev pub made_answer : Recipe → Reply
made_answer recipe =
    one_line 0 (codes "made " ++ decimal recipe.threads ++ codes " " ++ decimal recipe.events ++ codes " " ++ decimal (windows_of recipe.events))

-- at status 0 all files are made; where the folder failed, one of them may hold anything; all else is as before
pub record IsLeft (made : List File) (status : ℕ) (before after : List File) : Type 0 where
  pub all : status ≡ 0 → AreAllMade made before after
  pub failed : status ≡ 4 → AreSomeMade made before after
  pub others : status ≢ 4 → AreKeptOrMade made before after

-- what task make leaves, where the files are told
abbrev pub LeavesMade : List File → ℕ → Option (List File) → Option (List File) → Type 0
LeavesMade made status before after = WhereTold before after (IsLeft made status)

-- what a stop of task make leaves; nothing is refused there
abbrev pub MakingStops : List File → Option (List File) → Option (List File) → Stop → Type 0
MakingStops made before after (Refused why) = ⊥
MakingStops made before after FolderFailed = WhereTold before after (AreSomeMade made)
MakingStops made before after Memory = WhereTold before after (AreKeptOrMade made)

-- a task but make leaves the files as they were
abbrev pub LeavesBy : CommandForm → Task → ℕ → Option (List File) → Option (List File) → Type 0
LeavesBy command task.Make status before after = LeavesMade (made_at command.folder (recipe_of command)) status before after
LeavesBy command _ status before after = after ≡ before

-- what is left of the files: all as they were, but for what a command makes
abbrev pub LeavesFiles : Option CommandForm → ℕ → Option (List File) → Option (List File) → Type 0
LeavesFiles None status before after = after ≡ before
LeavesFiles (Some command) status before after = LeavesBy command command.task status before after
