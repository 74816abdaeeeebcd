-- What the words of a command line may give.
use Rattle.std.specs.Prelude.{ℕ, Bool, true, false, List, Option, Some, None, if◌then◌else◌, codes}
use Rattle.std.specs.Str.{bytes_eq}
use Rattle.gp_words.specs.declared.argument.Argument.{Argument}
use Rattle.gp_words.specs.declared.argument.Argument.TheVariants.{Task, Workers, Budget, Report, Seed, Threads, Events, As, Source, Window, Property, Instance, Answer, Most, Part, Of, Folder}
use Rattle.gp_words.specs.declared.argument.Program.{Program}
use Rattle.gp_words.specs.declared.argument.Program.TheVariants.{Gpredict, Gpshow, Gpshards}

-- the option of gpredict that has this name
abbrev pub gpredict_option : List ℕ → Option Argument
gpredict_option name =
    if bytes_eq name (codes "--task") then Some Task
    else (if bytes_eq name (codes "--workers") then Some Workers
    else (if bytes_eq name (codes "--budget") then Some Budget
    else (if bytes_eq name (codes "--report") then Some Report
    else (if bytes_eq name (codes "--seed") then Some Seed
    else (if bytes_eq name (codes "--threads") then Some Threads
    else (if bytes_eq name (codes "--events") then Some Events else None))))))

-- the option of gpshow that has this name
abbrev pub gpshow_option : List ℕ → Option Argument
gpshow_option name =
    if bytes_eq name (codes "--as") then Some As
    else (if bytes_eq name (codes "--source") then Some Source
    else (if bytes_eq name (codes "--window") then Some Window
    else (if bytes_eq name (codes "--property") then Some Property
    else (if bytes_eq name (codes "--instance") then Some Instance
    else (if bytes_eq name (codes "--answer") then Some Answer
    else (if bytes_eq name (codes "--most") then Some Most else None))))))

-- the option of gpshards that has this name
abbrev pub gpshards_option : List ℕ → Option Argument
gpshards_option name =
    if bytes_eq name (codes "--task") then Some Task
    else (if bytes_eq name (codes "--part") then Some Part
    else (if bytes_eq name (codes "--of") then Some Of else None))

-- the option of a program that has this name
abbrev pub option_named : Program → List ℕ → Option Argument
option_named Gpredict name = gpredict_option name
option_named Gpshow name = gpshow_option name
option_named Gpshards name = gpshards_option name

-- whether two arguments are the same
abbrev pub same_argument : Argument → Argument → Bool
same_argument Task Task = true
same_argument Workers Workers = true
same_argument Budget Budget = true
same_argument Report Report = true
same_argument Seed Seed = true
same_argument Threads Threads = true
same_argument Events Events = true
same_argument As As = true
same_argument Source Source = true
same_argument Window Window = true
same_argument Property Property = true
same_argument Instance Instance = true
same_argument Answer Answer = true
same_argument Most Most = true
same_argument Part Part = true
same_argument Of Of = true
same_argument Folder Folder = true
same_argument one other = false
