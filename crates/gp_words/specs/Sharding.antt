-- What the words of a command line of gpshards ask for.
use Rattle.std.specs.Prelude.{ℕ, ◌≤◌, ◌≢◌, Bool, true, not, ◌&&◌, nat_le, List, [], ◌∷◌, length, Option, Some, None, option_map, if◌then◌else◌, codes}
use Rattle.std.specs.List.{list_all, list_any}
use Rattle.std.specs.Str.{bytes_eq}
use Rattle.gp_base.specs.ListLaws.{AreDifferent}
use Rattle.gp_words.specs.Command.{is_folder, number_asked}
use Rattle.gp_words.specs.Reading.{if_some}
use Rattle.gp_words.specs.Value.{all_values_of, lent_texts, value_of}
use Rattle.gp_words.specs.declared.argument.Argument.TheVariants as argument
use Rattle.gp_words.specs.declared.argument.Program.TheVariants.{Gpshards}
use Rattle.gp_words.specs.declared.sharding.Asked.{Asked}
use Rattle.gp_words.specs.declared.sharding.CutCommand.{CutCommand}
use Rattle.gp_words.specs.declared.sharding.MergeCommand.{MergeCommand}
use Rattle.gp_words.specs.declared.sharding.ShardCommand.{ShardCommand}
use Rattle.gp_words.specs.declared.sharding.ShardCommand.TheVariants as command
use Rattle.gp_words.specs.declared.sharding.ShardTask.{ShardTask}
use Rattle.gp_words.specs.declared.sharding.ShardTask.TheVariants as task

-- a part of a recording by its number, how many parts there are, the folder of the recording, and the folder that the part is
-- written into
pub record CutForm : Type 0 where
  pub part : ℕ
  pub parts : ℕ
  pub folder : List ℕ
  pub out : List ℕ

-- the folder of a recording, and the folders of its parts
pub record MergeForm : Type 0 where
  pub folder : List ℕ
  pub outs : List (List ℕ)

-- what is asked for: to cut a part out, or to merge the reports of parts
pub data ShardForm : Type 0 where
  Cut : CutForm → ShardForm
  Merge : MergeForm → ShardForm

-- what contracts see of the code's own types
abbrev pub cut_form : CutCommand → CutForm
cut_form cut = record { part = cut.part; parts = cut.parts; folder = cut.folder.now; out = cut.out.now }

abbrev pub merge_form : MergeCommand → MergeForm
merge_form merge = record { folder = merge.folder.now; outs = lent_texts merge.outs }

abbrev pub shard_form : ShardCommand → ShardForm
shard_form (command.Cut cut) = Cut (cut_form cut)
shard_form (command.Merge merge) = Merge (merge_form merge)

-- the task of this name
abbrev pub shard_task_named : List ℕ → Option ShardTask
shard_task_named name = if bytes_eq name (codes "cut") then Some task.Cut else (if bytes_eq name (codes "merge") then Some task.Merge else None)

-- the task, which must be given
abbrev pub shard_task_of : List (List ℕ) → Option ShardTask
shard_task_of words = if_some (value_of Gpshards argument.Task words) (λ value. if_some value shard_task_named)

-- whether no two of these names are the same
abbrev pub are_different : List (List ℕ) → Bool
are_different [] = true
are_different (name ∷ names) = not (list_any (bytes_eq name) names) && are_different names

-- the names of at most 4,097 folders, no two of them the same
abbrev pub are_folders : List (List ℕ) → Bool
are_folders names = nat_le (length names) 4097 && (list_all is_folder names && are_different names)

-- the folders, in order
abbrev pub folders_of : List (List ℕ) → Option (List (List ℕ))
folders_of words = if_some (all_values_of Gpshards argument.Folder words) (λ names. if are_folders names then Some names else None)

-- a part that is one of the parts, where the folders are two: that of the recording, and that of the part
abbrev pub cut_into : ℕ → ℕ → List (List ℕ) → Option CutForm
cut_into part parts [] = None
cut_into part parts (folder ∷ []) = None
cut_into part parts (folder ∷ out ∷ []) = if nat_le part parts then Some (record { part = part; parts = parts; folder = folder; out = out }) else None
cut_into part parts (folder ∷ out ∷ next ∷ more) = None

-- a part whose number is given, and of how many
abbrev pub cut_of : Option ℕ → Option ℕ → List (List ℕ) → Option CutForm
cut_of part parts folders = if_some part (λ part. if_some parts (λ parts. cut_into part parts folders))

-- the folder of a recording, and those of its parts, at least one
abbrev pub merge_of : List (List ℕ) → Option MergeForm
merge_of [] = None
merge_of (folder ∷ []) = None
merge_of (folder ∷ out ∷ more) = Some (record { folder = folder; outs = out ∷ more })

-- the command of a task with these numbers, where they are given, and these folders
abbrev pub shard_of : ShardTask → Option ℕ → Option ℕ → List (List ℕ) → Option ShardForm
shard_of task.Cut part parts folders = option_map Cut (cut_of part parts folders)
shard_of task.Merge part parts folders = option_map Merge (merge_of folders)

-- the task, and the numbers where they are given: each is tested, also where the task does not use it
abbrev pub asked_of : List (List ℕ) → Option Asked
asked_of words =
    if_some (shard_task_of words) (λ task.
    if_some (number_asked Gpshards argument.Part 1 4096 words) (λ part.
    if_some (number_asked Gpshards argument.Of 1 4096 words) (λ parts.
    Some (record { task = task; part = part; parts = parts }))))

-- the command that the words are
abbrev pub shard_command_of : List (List ℕ) → Option ShardForm
shard_command_of words = if_some (asked_of words) (λ asked. if_some (folders_of words) (λ folders. shard_of asked.task asked.part asked.parts folders))

-- one of 1 to 4,096 parts, which is not written into the folder of its recording
pub record IsCut (cut : CutForm) : Type 0 where
  pub part : (1 ≤ cut.part) × (cut.part ≤ cut.parts)
  pub parts : cut.parts ≤ 4096
  pub apart : cut.folder ≢ cut.out

-- 1 to 4,096 parts, no two of which are one folder, or that of the recording
pub record IsMerge (merge : MergeForm) : Type 0 where
  pub outs : (1 ≤ length merge.outs) × (length merge.outs ≤ 4096)
  pub apart : AreDifferent (merge.folder ∷ merge.outs)

-- the rules of a command
abbrev pub IsSound : ShardForm → Type 0
IsSound (Cut cut) = IsCut cut
IsSound (Merge merge) = IsMerge merge
