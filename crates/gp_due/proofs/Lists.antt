-- The lines of a report's lists are refused by a rule.
use Rattle.std.proofs.Common.{ℕ, zero, suc, ◌-◌, Bool, true, false, List, [], ◌∷◌, Option, Ok, Err, codes, min}
use Rattle.gp_text.specs.declared.line.Line.{Line}
use Rattle.gp_text.specs.Numbers.{small_number_of}
use Rattle.gp_report.specs.declared.fault.ReportFault.TheVariants.{Rule}
use Rattle.gp_report.specs.declared.fault.ReportRule.{ReportRule}
use Rattle.gp_report.specs.declared.fault.ReportRule.TheVariants.{Form}
use Rattle.gp_report.specs.Reading.{Reads, kept_if, lit_of, next_line, read_list, read_list_line, read_lits, read_step, read_steps, read_words, told, told_by, two_numbers, with_front, with_things, words_after}
use Rattle.gp_due.specs.Saying.{OnlySays, ReportSays}
use Rattle.gp_due.proofs.Results as of

pub kept : {A : Type 0} (right : Bool) (rule : ReportRule) (number : ℕ) (value : A) → OnlySays ReportSays (kept_if right rule number value)
kept true rule number value = of.value
kept false rule number value = of.fault tt

pub next_says : (end : ℕ) (lines : List Line) → OnlySays ReportSays (next_line end lines)
next_says end [] = of.fault tt
next_says end (line ∷ lines) = of.value

pub told_says : {A : Type 0} (keyword : List ℕ) (tell : List (List ℕ) → Option A) (line : Line) → OnlySays ReportSays (told_by keyword tell line)
told_says keyword tell line = of.unless_there (Rule line.number Form) (told (words_after keyword line.words) tell) tt

pub front_says : {A : Type 0} (front : List A) (rest : Reads (List A)) → OnlySays ReportSays rest → OnlySays ReportSays (with_front front rest)
front_says front (Ok read) says = of.value
front_says front (Err fault) says = of.fault says.fault

things_say : {A : Type 0} (front : List A) (rest : Reads (List A × ℕ)) → OnlySays ReportSays rest → OnlySays ReportSays (with_things front rest)
things_say front (Ok read) says = of.value
things_say front (Err fault) says = of.fault says.fault

pub words_say : {A : Type 0} (of_word : List ℕ → Option A) (number : ℕ) (words : List (List ℕ)) → OnlySays ReportSays (read_words of_word number words)
words_say of_word number [] = of.value
words_say of_word number (word ∷ words) = of.before_rest (of.unless_there (Rule number Form) (of_word word) tt) (words_say of_word number words)

line_says : {A : Type 0} (of_word : List ℕ → Option A) (due : ℕ) (line : Line) → OnlySays ReportSays (read_list_line of_word due line)
unfolding read_list_line
line_says of_word due line = of.in_turn (words_say of_word line.number line.words) (λ things. kept _ _ _ _)

pub list_says : {A : Type 0} (of_word : List ℕ → Option A) (end last count : ℕ) (lines : List Line) → OnlySays ReportSays (read_list of_word end last count lines)
list_says of_word end last zero lines = of.value
list_says of_word end last (suc more) [] = of.fault tt
list_says of_word end last (suc more) (line ∷ lines) =
    of.in_turn (line_says of_word (min 100 (suc more)) line) (λ things.
    things_say things (read_list of_word end line.number (suc more - 100) lines) (list_says of_word end line.number (suc more - 100) lines))

lits_say : (end number count : ℕ) (lines : List Line) → OnlySays ReportSays (read_lits end number count lines)
unfolding read_lits
lits_say end number count lines = of.in_turn (list_says lit_of end number count lines) (λ lits. kept _ _ _ _)

step_says : (end : ℕ) (lines : List Line) → OnlySays ReportSays (read_step end lines)
unfolding read_step
step_says end lines =
    of.in_turn (next_says end lines) (λ line.
    of.in_turn (told_says (codes "step") two_numbers line.0) (λ counts.
    of.in_turn (lits_say end line.0.number counts.0 line.1) (λ lits.
    of.in_turn (list_says small_number_of end line.0.number counts.1 lits.1) (λ hints. of.value))))

pub steps_say : (end count : ℕ) (lines : List Line) → OnlySays ReportSays (read_steps end count lines)
steps_say end zero lines = of.value
steps_say end (suc more) lines = of.in_turn (step_says end lines) (λ step. front_says (step.0 ∷ []) (read_steps end more step.1) (steps_say end more step.1))
