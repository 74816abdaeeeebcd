-- The command that the words of a command line of gpredict are.
use Rattle.std.specs.Prelude.{ℕ, Bool, not, ◌&&◌, ◌≤◌, nat_le, List, length, Option, Some, None, option_map, if◌then◌else◌, codes}
use Rattle.std.specs.Str.{bytes_eq}
use Rattle.gp_text.specs.Numbers.{between, number_of}
use Rattle.gp_words.specs.Reading.{if_some}
use Rattle.gp_words.specs.Value.{value_of}
use Rattle.gp_words.specs.declared.argument.Argument.{Argument}
use Rattle.gp_words.specs.declared.argument.Argument.TheVariants as argument
use Rattle.gp_words.specs.declared.argument.Program.{Program}
use Rattle.gp_words.specs.declared.argument.Program.TheVariants.{Gpredict}
use Rattle.gp_words.specs.declared.command.Command.{Command}
use Rattle.gp_words.specs.declared.task.Task.{Task}
use Rattle.gp_words.specs.declared.task.Task.TheVariants as task

-- a task, the folder that it works on, and its numbers
pub record CommandForm : Type 0 where
  pub task : Task
  pub folder : List ℕ
  pub workers : ℕ
  pub budget : ℕ
  pub format : ℕ
  pub seed : ℕ
  pub threads : ℕ
  pub events : ℕ

-- what contracts see of a command
abbrev pub form_of : Command → CommandForm
form_of command =
    record {
      task = command.task;
      folder = command.folder.now;
      workers = command.workers;
      budget = command.budget;
      format = command.format;
      seed = command.seed;
      threads = command.threads;
      events = command.events;
    }

-- the task of this name
abbrev pub task_named : List ℕ → Option Task
task_named name =
    if bytes_eq name (codes "analyse") then Some task.Analyse
    else (if bytes_eq name (codes "list") then Some task.List
    else (if bytes_eq name (codes "replay") then Some task.Replay
    else (if bytes_eq name (codes "check") then Some task.Check
    else (if bytes_eq name (codes "make") then Some task.Make
    else (if bytes_eq name (codes "compact") then Some task.Compact
    else (if bytes_eq name (codes "link") then Some task.Link
    else (if bytes_eq name (codes "stuck") then Some task.Stuck
    else (if bytes_eq name (codes "notify") then Some task.Notify
    else (if bytes_eq name (codes "resume") then Some task.Resume else None)))))))))

-- the task, which must be given
abbrev pub task_of : List (List ℕ) → Option Task
task_of words = if_some (value_of Gpredict argument.Task words) (λ value. if_some value task_named)

-- a name of 1 to 4,096 bytes that is not the single byte `-`
abbrev pub is_folder : List ℕ → Bool
is_folder name = nat_le 1 (length name) && nat_le (length name) 4096 && not (bytes_eq name (codes "-"))

-- the folder, which must be given
abbrev pub folder_of : Program → List (List ℕ) → Option (List ℕ)
folder_of program words = if_some (value_of program argument.Folder words) (λ value. if_some value (λ name. if is_folder name then Some name else None))

-- a canonical decimal in this range
abbrev pub number_in : ℕ → ℕ → List ℕ → Option ℕ
number_in low high value = between low high (number_of value)

-- what the value reads as, or the default where none is given
abbrev pub or_default : ℕ → (List ℕ → Option ℕ) → Option (List ℕ) → Option ℕ
or_default default read None = Some default
or_default default read (Some value) = read value

-- the number of an option that may be left out
abbrev pub number_given : Program → Argument → (List ℕ → Option ℕ) → ℕ → List (List ℕ) → Option ℕ
number_given program option read default words = if_some (value_of program option words) (or_default default read)

-- what the value reads as, where one is given
abbrev pub if_given : {A : Type 0} → (List ℕ → Option A) → Option (List ℕ) → Option (Option A)
if_given read None = Some None
if_given read (Some value) = option_map Some (read value)

-- the number in this range that an option gives, where it is given
abbrev pub number_asked : Program → Argument → ℕ → ℕ → List (List ℕ) → Option (Option ℕ)
number_asked program option low high words = if_some (value_of program option words) (if_given (number_in low high))

-- the command that the words are: each argument is tested, also one that the task does not use
abbrev pub command_of : List (List ℕ) → Option CommandForm
command_of words =
    if_some (task_of words) (λ task.
    if_some (folder_of Gpredict words) (λ folder.
    if_some (number_given Gpredict argument.Workers (number_in 1 16) 4 words) (λ workers.
    if_some (number_given Gpredict argument.Budget (number_in 1 1000000) 200 words) (λ budget.
    if_some (number_given Gpredict argument.Report (number_in 1 2) 1 words) (λ format.
    if_some (number_given Gpredict argument.Seed number_of 1 words) (λ seed.
    if_some (number_given Gpredict argument.Threads (number_in 1 64) 4 words) (λ threads.
    if_some (number_given Gpredict argument.Events (number_in 1 100000) 600 words) (λ events.
    Some (record { task = task; folder = folder; workers = workers; budget = budget; format = format; seed = seed; threads = threads; events = events })))))))))

-- the numbers of a command are in their ranges
pub record IsInRanges (command : CommandForm) : Type 0 where
  pub workers : (1 ≤ command.workers) × (command.workers ≤ 16)
  pub budget : (1 ≤ command.budget) × (command.budget ≤ 1000000)
  pub format : (1 ≤ command.format) × (command.format ≤ 2)
  pub threads : (1 ≤ command.threads) × (command.threads ≤ 64)
  pub events : (1 ≤ command.events) × (command.events ≤ 100000)
