-- Which instances of a report are shown, and in which order: those that are found first; of SARIF these alone.
use Rattle.std.specs.Prelude.{ℕ, Bool, true, false, not, ◌==◌, ◌&&◌, List, ◌++◌, filter, Option, Some, None, take}
use Rattle.std.specs.List.{list_any}
use Rattle.std.specs.Str.{bytes_eq}
use Rattle.gp_report.specs.Entries.{entries_in, properties_in}
use Rattle.gp_report.specs.declared.record.AnswerOf.TheVariants.{Found, Impossible, Undecided}
use Rattle.gp_report.specs.Records.{Answer, Entry, PropertyRecord, WindowRecord}
use Rattle.gp_view.specs.Answered.{AnsweredForm}
use Rattle.gp_words.specs.Showing.{ShowForm}
use Rattle.gp_words.specs.declared.showing.AnswerKind.{AnswerKind}
use Rattle.gp_words.specs.declared.showing.AnswerKind.TheVariants as kind
use Rattle.gp_words.specs.declared.showing.Style.{Style}
use Rattle.gp_words.specs.declared.showing.Style.TheVariants.{Text, Page, Json, Sarif}
use Rattle.gp_show.specs.declared.choice.Pass.{Pass}
use Rattle.gp_show.specs.declared.choice.Pass.TheVariants as pass

-- whether a number is asked for
abbrev pub asks_number : Option ℕ → ℕ → Bool
asks_number None number = true
asks_number (Some asked) number = number == asked

-- whether a name is asked for
abbrev pub asks_name : Option (List ℕ) → List ℕ → Bool
asks_name None name = true
asks_name (Some asked) name = bytes_eq name asked

-- which of the three an answer is
abbrev pub kind_of : Answer → AnswerKind
kind_of (Found schedule) = kind.Found
kind_of (Impossible certificate) = kind.Impossible
kind_of (Undecided worker from to) = kind.Undecided

-- whether two of the three are the same
abbrev pub same_kind : AnswerKind → AnswerKind → Bool
same_kind kind.Found kind.Found = true
same_kind kind.Impossible kind.Impossible = true
same_kind kind.Undecided kind.Undecided = true
same_kind one other = false

-- whether an answer is asked for
abbrev pub asks_kind : Option AnswerKind → Answer → Bool
asks_kind None answer = true
asks_kind (Some asked) answer = same_kind (kind_of answer) asked

-- whether an answer is that an instance is found
abbrev pub is_found : Answer → Bool
is_found (Found schedule) = true
is_found (Impossible certificate) = false
is_found (Undecided worker from to) = false

-- whether an instance with this answer is told in a style
abbrev pub asks_answer : Style → Answer → Bool
asks_answer Text answer = true
asks_answer Page answer = true
asks_answer Json answer = true
asks_answer Sarif answer = is_found answer

-- whether an instance is asked for
abbrev pub asks : ShowForm → AnsweredForm → Bool
asks command answered =
    asks_number command.window answered.window.number && asks_name command.property answered.property.name
    && asks_number command.instance answered.number && asks_kind command.answer answered.entry.answer
    && asks_answer command.style answered.entry.answer

-- those of some instances that are asked for
abbrev pub asked_of : ShowForm → List AnsweredForm → List AnsweredForm
asked_of command answers = filter (asks command) answers

-- whether a pass over a report tells of instances with this answer
abbrev pub is_told_in : Pass → Answer → Bool
is_told_in pass.Found answer = is_found answer
is_told_in pass.Others answer = not (is_found answer)

-- those of some instances that a pass tells of
abbrev pub told_in : Pass → List AnsweredForm → List AnsweredForm
told_in pass answers = filter (λ (answered : AnsweredForm). is_told_in pass answered.entry.answer) answers

-- those that are found, and then the others, each in their order
abbrev pub found_first : List AnsweredForm → List AnsweredForm
found_first answers = told_in pass.Found answers ++ told_in pass.Others answers

-- of those that are asked for the first ones, as many as the command says at most
abbrev pub shown_of : ShowForm → List AnsweredForm → List AnsweredForm
shown_of command answers = take command.most (found_first (asked_of command answers))

-- whether an instance is asked for, and a pass tells of it
abbrev pub asks_in : ShowForm → Pass → AnsweredForm → Bool
asks_in command pass answered = asks command answered && is_told_in pass answered.entry.answer

-- those of some instances that are asked for and that a pass tells of
abbrev pub asked_in : ShowForm → Pass → List AnsweredForm → List AnsweredForm
asked_in command pass answers = filter (asks_in command pass) answers

-- whether an instance with this answer may be asked for, and a pass tells of it
abbrev pub wants : ShowForm → Pass → Answer → Bool
wants command pass answer = asks_kind command.answer answer && asks_answer command.style answer && is_told_in pass answer

-- whether a property has such an answer
abbrev pub wants_property : ShowForm → Pass → PropertyRecord → Bool
wants_property command pass property = list_any (λ (entry : Entry). wants command pass entry.answer) (entries_in property.body)

-- whether a window has
abbrev pub wants_window : ShowForm → Pass → WindowRecord → Bool
wants_window command pass told = list_any (wants_property command pass) (properties_in told.body)
