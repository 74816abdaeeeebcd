-- What is due to the words and to the told files: a function of these alone.
use Rattle.std.specs.Prelude.{ℕ, Bool, true, false, List, Option, Some, None, codes}
use Rattle.gp_outside.specs.Folders.{File}
use Rattle.gp_words.specs.Command.{CommandForm, command_of}
use Rattle.gp_predict.specs.declared.reply.Reply.{Reply}
use Rattle.gp_predict.specs.Asking.{recipe_of}
use Rattle.gp_predict.specs.Making.{made_answer}
use Rattle.gp_predict.specs.Refusal.{one_line}
use Rattle.gp_predict.specs.Tasks.{Expected, Text, either_expected, reads_files, task_at}

-- the refusal of the words
abbrev pub words_refused : Reply
words_refused = one_line 2 (codes "words")

-- what is due to a command, where these files are told; where it reads files and none are told, nothing is said
abbrev pub due_by : Bool → CommandForm → Option (List File) → Option Expected
due_by false command told = Some (Text (made_answer (recipe_of command)))
due_by true command None = None
due_by true command (Some files) = Some (either_expected (task_at command command.task files))

-- what is due where the words are this command, and these files are told
abbrev pub due_in : Option (List File) → Option CommandForm → Option Expected
due_in told None = Some (Text words_refused)
due_in told (Some command) = due_by (reads_files command.task) command told

-- what is due to the words and the told files; wrong words are refused whatever is told
abbrev pub due_answer : List (List ℕ) → Option (List File) → Option Expected
due_answer words told = due_in told (command_of words)
