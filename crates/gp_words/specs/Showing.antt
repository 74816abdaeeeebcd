-- What the words of a command line of gpshow ask for.
use Rattle.std.specs.Prelude.{ℕ, List, Option, Some, None, option_map, if◌then◌else◌, codes}
use Rattle.std.specs.Str.{bytes_eq}
use Rattle.gp_words.specs.Command.{folder_of, if_given, is_folder, number_asked, number_given, number_in}
use Rattle.gp_words.specs.Reading.{if_some}
use Rattle.gp_words.specs.Value.{value_of}
use Rattle.gp_words.specs.declared.argument.Argument.{Argument}
use Rattle.gp_words.specs.declared.argument.Argument.TheVariants as argument
use Rattle.gp_words.specs.declared.argument.Program.{Program}
use Rattle.gp_words.specs.declared.argument.Program.TheVariants.{Gpshow}
use Rattle.gp_words.specs.declared.showing.AnswerKind.{AnswerKind}
use Rattle.gp_words.specs.declared.showing.AnswerKind.TheVariants.{Found, Impossible, Undecided}
use Rattle.gp_words.specs.declared.showing.ShowCommand.{ShowCommand}
use Rattle.gp_words.specs.declared.showing.Style.{Style}
use Rattle.gp_words.specs.declared.showing.Style.TheVariants.{Text, Page, Json, Sarif}

-- how a report is shown, the folder that it stands in, where the sources of the program lie, if that is said, which instances are asked
-- for, and how many of them are shown at most; where no window, no property, no number of an instance or no answer is given, any is asked
-- for
pub record ShowForm : Type 0 where
  pub style : Style
  pub folder : List ℕ
  pub source : Option (List ℕ)
  pub window : Option ℕ
  pub property : Option (List ℕ)
  pub instance : Option ℕ
  pub answer : Option AnswerKind
  pub most : ℕ

-- what contracts see of a command
abbrev pub show_form : ShowCommand → ShowForm
show_form command = record {
  style = command.style;
  folder = command.folder.now;
  source = option_map (λ directory. directory.now) command.source;
  window = command.window;
  property = option_map (λ name. name.now) command.property;
  instance = command.instance;
  answer = command.answer;
  most = command.most;
}

-- the style of this name
abbrev pub style_named : List ℕ → Option Style
style_named name =
    if bytes_eq name (codes "text") then Some Text else
    (if bytes_eq name (codes "html") then Some Page else
    (if bytes_eq name (codes "json") then Some Json else
    (if bytes_eq name (codes "sarif") then Some Sarif else None)))

-- the style, which is text where none is given
abbrev pub style_or_text : Option (List ℕ) → Option Style
style_or_text None = Some Text
style_or_text (Some name) = style_named name

abbrev pub style_of : List (List ℕ) → Option Style
style_of words = if_some (value_of Gpshow argument.As words) style_or_text

-- the answer of this name
abbrev pub answer_named : List ℕ → Option AnswerKind
answer_named name =
    if bytes_eq name (codes "found") then Some Found else
    (if bytes_eq name (codes "impossible") then Some Impossible else
    (if bytes_eq name (codes "undecided") then Some Undecided else None))

-- the answer, where one is given
abbrev pub answer_of : List (List ℕ) → Option (Option AnswerKind)
answer_of words = if_some (value_of Gpshow argument.Answer words) (if_given answer_named)

-- the folder that an option names, where it is given
abbrev pub folder_asked : Program → Argument → List (List ℕ) → Option (Option (List ℕ))
folder_asked program option words =
    if_some (value_of program option words) (if_given (λ name. if is_folder name then Some name else None))

-- the command that the words are
abbrev pub show_command_of : List (List ℕ) → Option ShowForm
show_command_of words =
    if_some (style_of words) (λ style.
    if_some (folder_of Gpshow words) (λ folder.
    if_some (folder_asked Gpshow argument.Source words) (λ source.
    if_some (number_asked Gpshow argument.Window 1 4096 words) (λ window.
    if_some (value_of Gpshow argument.Property words) (λ property.
    if_some (number_asked Gpshow argument.Instance 0 9999 words) (λ instance.
    if_some (answer_of words) (λ answer.
    if_some (number_given Gpshow argument.Most (number_in 1 10000) 100 words) (λ most.
    Some (record { style = style; folder = folder; source = source; window = window; property = property; instance = instance; answer = answer; most = most })))))))))
