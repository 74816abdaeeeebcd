-- What the lines of a text tell, read from the first one on: a report, or the first line that breaks a rule, and the first rule that it breaks.
use Rattle.std.specs.Prelude.{◌≡◌, ◌≢◌, ◌+◌, ◌-◌, ◌^◌, ℕ, zero, suc, ◌==◌, ◌&&◌, Bool, true, false, nat_le, nat_lt, min, List, [], ◌∷◌, ◌++◌, length, Option, Some, None, Result, Ok, Err, if◌then◌else◌, codes}
use Rattle.std.specs.Str.{bytes_eq}
use Rattle.gp_clause.specs.declared.lit.Lit.{Lit}
use Rattle.gp_certificate.specs.declared.step.Step.{Step}
use Rattle.gp_text.specs.declared.line.Line.{Line}
use Rattle.gp_text.specs.declared.lines.TextFault.{TextFault}
use Rattle.gp_text.specs.Lines.{end_line_of, lines_of}
use Rattle.gp_text.specs.Name.{name_of}
use Rattle.gp_text.specs.Numbers.{if_below, number_of, small_number_of}
use Rattle.gp_base.specs.Results.{and_then, or_refusal, then_rest}
use Rattle.gp_window.specs.declared.schedule.EventId.{EventId}
use Rattle.gp_window.specs.EventIds.{event_id_of}
use Rattle.gp_report.specs.declared.fault.ReportFault.{ReportFault}
use Rattle.gp_report.specs.declared.fault.ReportFault.TheVariants.{Memory, Rule, Text}
use Rattle.gp_report.specs.declared.fault.ReportRule.{ReportRule}
use Rattle.gp_report.specs.declared.fault.ReportRule.TheVariants.{After, Clause, End, Form, Length, Order}
use Rattle.gp_report.specs.Records.{Answer, Entry, PropertyBody, PropertyRecord, WindowBody, WindowRecord}
use Rattle.gp_report.specs.declared.record.AnswerOf.TheVariants.{Found, Impossible, Undecided}
use Rattle.gp_report.specs.declared.record.PropertyBodyOf.TheVariants.{TooMany, Entries}
use Rattle.gp_report.specs.declared.record.WindowBodyOf.TheVariants.{TooLarge, Answers}
use Rattle.gp_report.specs.declared.reading.report.ReadReport.{ReadReport}
use Rattle.gp_report.specs.declared.tally.Tally.{Tally}
use Rattle.gp_report.specs.Entries.{entries_of}
use Rattle.gp_report.specs.ReportForm.{ReportForm}
use Rattle.gp_report.specs.Tally.{tally_of}

-- a value and the lines that are left behind it, or the first rule that is broken
abbrev pub Reads : Type 0 → Type 0
Reads A = Result (A × List Line) ReportFault

-- how one step of a reader follows another
infixl 10 ◌>>=◌
abbrev pub ◌>>=◌ : {A B : Type 0} → Result A ReportFault → (A → Result B ReportFault) → Result B ReportFault
◌>>=◌ = and_then

-- this rule is broken at the line of this number
abbrev pub broken : {A : Type 0} → ReportRule → ℕ → Result A ReportFault
broken rule number = Err (Rule number rule)

-- a value that is right, or the rule that it breaks at the line of this number
abbrev pub kept_if : {A : Type 0} → Bool → ReportRule → ℕ → A → Result A ReportFault
kept_if right rule number value = if right then Ok value else broken rule number

-- values before those that are read
abbrev pub with_front : {A : Type 0} → List A → Reads (List A) → Reads (List A)
with_front front (Ok read) = Ok (front ++ read.0, read.1)
with_front front (Err fault) = Err fault

-- the next line; `end` is the number of the line at which the text ends
abbrev pub next_line : ℕ → List Line → Reads Line
next_line end [] = broken End end
next_line end (line ∷ lines) = Ok (line, lines)

-- a thing and those behind it, where there is one; else nothing
abbrev pub before : {A : Type 0} → Option A → List A → List A
before None others = []
before (Some thing) others = thing ∷ others

-- whether the first of these words is this keyword
abbrev pub begins_with : List ℕ → List (List ℕ) → Bool
begins_with keyword [] = false
begins_with keyword (word ∷ words) = bytes_eq word keyword

-- whether the next line begins with this keyword
abbrev pub is_at : List ℕ → List Line → Bool
is_at keyword [] = false
is_at keyword (line ∷ lines) = begins_with keyword line.words

-- the words behind a keyword, where they begin with it
abbrev pub words_after : List ℕ → List (List ℕ) → Option (List (List ℕ))
words_after keyword [] = None
words_after keyword (word ∷ words) = if bytes_eq word keyword then Some words else None

-- what an option's value tells
abbrev pub told : {A B : Type 0} → Option A → (A → Option B) → Option B
told None tell = None
told (Some value) tell = tell value

-- what a line of this keyword tells behind it, where it has this form
abbrev pub told_by : {A : Type 0} → List ℕ → (List (List ℕ) → Option A) → Line → Result A ReportFault
told_by keyword tell line = or_refusal (Rule line.number Form) (told (words_after keyword line.words) tell)

-- two values that must both be there
abbrev pub both : {A B : Type 0} → Option A → Option B → Option (A × B)
both (Some first) (Some second) = Some (first, second)
both (Some first) None = None
both None second = None

-- one number
abbrev pub one_number : List (List ℕ) → Option ℕ
one_number (number ∷ []) = number_of number
one_number _ = None

-- two numbers
abbrev pub two_numbers : List (List ℕ) → Option (ℕ × ℕ)
two_numbers (first ∷ second ∷ []) = both (number_of first) (number_of second)
two_numbers _ = None

-- three numbers, the second and the third as a pair
abbrev pub three_numbers : List (List ℕ) → Option (ℕ × (ℕ × ℕ))
three_numbers (first ∷ second ∷ third ∷ []) = both (number_of first) (both (number_of second) (number_of third))
three_numbers _ = None

-- the things that the words of the line of this number name
abbrev pub read_words : {A : Type 0} → (List ℕ → Option A) → ℕ → List (List ℕ) → Result (List A) ReportFault
read_words of_word number [] = Ok []
read_words of_word number (word ∷ words) = then_rest (or_refusal (Rule number Form) (of_word word)) (read_words of_word number words)

-- the things that a line of a list names, which are to be so many
unfoldable pub read_list_line : {A : Type 0} → (List ℕ → Option A) → ℕ → Line → Result (List A) ReportFault
read_list_line of_word due line = do
  things ← read_words of_word line.number line.words
  kept_if (length things == due) Length line.number things

-- things before those of a list that are read
abbrev pub with_things : {A : Type 0} → List A → Reads (List A × ℕ) → Reads (List A × ℕ)
with_things front (Ok read) = Ok ((front ++ read.0.0, read.0.1), read.1)
with_things front (Err fault) = Err fault

-- a list of so many things, in lines of 100, and the number of its last line, or of the line before where it has none
abbrev pub read_list : {A : Type 0} → (List ℕ → Option A) → ℕ → ℕ → ℕ → List Line → Reads (List A × ℕ)
read_list of_word end last zero lines = Ok (([], last), lines)
read_list of_word end last (suc more) [] = broken End end
read_list of_word end last (suc more) (line ∷ lines) =
    read_list_line of_word (min 100 (suc more)) line >>= λ things. with_things things (read_list of_word end line.number (suc more - 100) lines)

-- the literal whose variable has this number, from 1
abbrev pub lit_with : Bool → Option ℕ → Option Lit
lit_with positive None = None
lit_with positive (Some zero) = None
lit_with positive (Some (suc variable)) = Some (record { variable = variable; positive = positive })

-- the literal that a word names; 45 is the minus
abbrev pub lit_of : List ℕ → Option Lit
lit_of [] = None
lit_of (b ∷ bytes) =
    if b == 45 then lit_with false (if_below (2 ^ 31) (small_number_of bytes))
    else lit_with true (if_below (2 ^ 31) (small_number_of (b ∷ bytes)))

-- whether the variables rise from each literal to the next
abbrev pub rises : List Lit → Bool
rises [] = true
rises (lit ∷ []) = true
rises (lit ∷ next ∷ lits) = nat_lt lit.variable next.variable && rises (next ∷ lits)

-- the literals of a step whose line has this number
unfoldable pub read_lits : ℕ → ℕ → ℕ → List Line → Reads (List Lit)
read_lits end number count lines = do
  lits ← read_list lit_of end number count lines
  kept_if (rises lits.0.0) Clause lits.0.1 (lits.0.0, lits.1)

-- `step L H`, then L literals and H hints
unfoldable pub read_step : ℕ → List Line → Reads Step
read_step end lines = do
  line ← next_line end lines
  counts ← told_by (codes "step") two_numbers line.0
  lits ← read_lits end line.0.number counts.0 line.1
  hints ← read_list small_number_of end line.0.number counts.1 lits.1
  Ok (record { clause = lits.0; hints = hints.0.0 }, hints.1)

-- so many steps
abbrev pub read_steps : ℕ → ℕ → List Line → Reads (List Step)
read_steps end zero lines = Ok ([], lines)
read_steps end (suc more) lines = read_step end lines >>= λ step. with_front (step.0 ∷ []) (read_steps end more step.1)

-- `found M`, then the M events of a schedule
unfoldable pub read_found : ℕ → Line → List Line → Reads Answer
read_found end line lines = do
  count ← told_by (codes "found") one_number line
  events ← read_list event_id_of end line.number count lines
  Ok (Found (record { events = events.0.0 }), events.1)

-- `impossible S`, then S steps
unfoldable pub read_impossible : ℕ → Line → List Line → Reads Answer
read_impossible end line lines = do
  count ← told_by (codes "impossible") one_number line
  steps ← read_steps end count lines
  Ok (Impossible (record { steps = steps.0 }), steps.1)

-- whether an answer can say that it is undecided with these numbers: a worker, and two that are below 2^32
abbrev pub is_undecided_with : ℕ → ℕ → ℕ → Bool
is_undecided_with worker from to = nat_le 1 worker && nat_le worker 16 && nat_lt from (2 ^ 32) && nat_lt to (2 ^ 32)

-- `undecided W FROM TO`
unfoldable pub read_undecided : Line → Result Answer ReportFault
read_undecided line = do
  numbers ← told_by (codes "undecided") three_numbers line
  kept_if (is_undecided_with numbers.0 numbers.1.0 numbers.1.1) Form line.number (Undecided numbers.0 numbers.1.0 numbers.1.1)

-- the answer that begins with this line
unfoldable pub answer_at : ℕ → Line → List Line → Reads Answer
answer_at end line lines =
    if begins_with (codes "found") line.words then read_found end line lines
    else (if begins_with (codes "impossible") line.words then read_impossible end line lines
    else read_undecided line >>= λ answer. Ok (answer, lines))

-- an answer
unfoldable pub read_answer : ℕ → List Line → Reads Answer
read_answer end lines = do
  line ← next_line end lines
  answer_at end line.0 line.1

-- a number below 2^32, and words behind it
abbrev pub number_and_words : List (List ℕ) → Option (ℕ × List (List ℕ))
number_and_words [] = None
number_and_words (number ∷ words) = both (small_number_of number) (Some words)

-- `instance I` and 1 to 6 events, where I is due
unfoldable pub read_instance : ℕ → Line → Result (List EventId) ReportFault
read_instance due line = do
  told ← told_by (codes "instance") number_and_words line
  events ← read_words event_id_of line.number told.1
  few ← kept_if (nat_le 1 (length events) && nat_le (length events) 6) Form line.number events
  kept_if (told.0 == due) Order line.number few

-- the entry of this number: its instance and its answer
unfoldable pub read_entry : ℕ → ℕ → List Line → Reads Entry
read_entry end due lines = do
  line ← next_line end lines
  events ← read_instance due line.0
  answer ← read_answer end line.1
  Ok (record { events = events; answer = answer.0 }, answer.1)

-- so many entries, numbered from this number on
abbrev pub read_entries : ℕ → ℕ → ℕ → List Line → Reads (List Entry)
read_entries end due zero lines = Ok ([], lines)
read_entries end due (suc more) lines = read_entry end due lines >>= λ entry. with_front (entry.0 ∷ []) (read_entries end (due + 1) more entry.1)

-- a number of entries that is not too great
abbrev pub some_entries : Option ℕ → Option (Option ℕ)
some_entries None = None
some_entries (Some count) = if nat_le count 10000 then Some (Some count) else None

-- how many entries a property has: none is told where they are too many
abbrev pub entry_count : List ℕ → Option (Option ℕ)
entry_count word = if bytes_eq word (codes "toomany") then Some None else some_entries (number_of word)

-- a name, and how many entries
abbrev pub name_and_count : List (List ℕ) → Option (List ℕ × Option ℕ)
name_and_count (name ∷ count ∷ []) = both (name_of name) (entry_count count)
name_and_count _ = None

-- the entries of a property, where it is told how many there are
abbrev pub read_body : ℕ → Option ℕ → List Line → Reads PropertyBody
read_body end None lines = Ok (TooMany, lines)
read_body end (Some count) lines = read_entries end 0 count lines >>= λ entries. Ok (Entries entries.0, entries.1)

-- `property name N` and N entries, or `property name toomany`
unfoldable pub read_property : ℕ → List Line → Reads PropertyRecord
read_property end lines = do
  line ← next_line end lines
  told ← told_by (codes "property") name_and_count line.0
  body ← read_body end told.1 line.1
  Ok (record { name = told.0; body = body.0 }, body.1)

-- properties, as long as the next line begins with `property`; there are at most so many
abbrev pub read_properties : ℕ → ℕ → List Line → Reads (List PropertyRecord)
read_properties end zero lines = Ok ([], lines)
read_properties end (suc most) lines =
    if is_at (codes "property") lines then (read_property end lines >>= λ property. with_front (property.0 ∷ []) (read_properties end most property.1))
    else Ok ([], lines)

-- `shared S` and S steps
unfoldable pub read_shared : ℕ → List Line → Reads (List Step)
read_shared end lines = do
  line ← next_line end lines
  count ← told_by (codes "shared") one_number line.0
  read_steps end count line.1

-- the steps that a window shares, which only format 2 tells
abbrev pub shared_in : ℕ → ℕ → List Line → Reads (List Step)
shared_in end format lines = if format == 2 then read_shared end lines else Ok ([], lines)

-- `toolarge E C`
unfoldable pub read_too_large : ℕ → List Line → Reads (List Step × WindowBody)
read_too_large end lines = do
  line ← next_line end lines
  sizes ← told_by (codes "toolarge") two_numbers line.0
  Ok (([], TooLarge sizes.0 sizes.1), line.1)

-- the shared steps of a window, and its properties
unfoldable pub read_answers : ℕ → ℕ → List Line → Reads (List Step × WindowBody)
read_answers end format lines = do
  shared ← shared_in end format lines
  properties ← read_properties end (length shared.1) shared.1
  Ok ((shared.0, Answers properties.0), properties.1)

-- what is told of a window: its shared steps, and the rest
abbrev pub read_window_body : ℕ → ℕ → List Line → Reads (List Step × WindowBody)
read_window_body end format lines = if is_at (codes "toolarge") lines then read_too_large end lines else read_answers end format lines

-- `window K`, where K is due
unfoldable pub read_window_number : ℕ → Line → Result ℕ ReportFault
read_window_number due line = do
  number ← told_by (codes "window") one_number line
  small ← kept_if (nat_lt number (2 ^ 32)) Form line.number number
  kept_if (small == due) Order line.number small

-- the window of this number
unfoldable pub read_window : ℕ → ℕ → ℕ → List Line → Reads WindowRecord
read_window end format due lines = do
  line ← next_line end lines
  number ← read_window_number due line.0
  body ← read_window_body end format line.1
  Ok (record { number = number; shared = body.0.0; body = body.0.1; records = [] }, body.1)

-- windows, numbered from this number on, as long as the next line begins with `window`; there are at most so many
abbrev pub read_windows : ℕ → ℕ → ℕ → ℕ → List Line → Reads (List WindowRecord)
read_windows end format due zero lines = Ok ([], lines)
read_windows end format due (suc most) lines =
    if is_at (codes "window") lines then (read_window end format due lines >>= λ window. with_front (window.0 ∷ []) (read_windows end format (due + 1) most window.1))
    else Ok ([], lines)

-- the number of a line of this keyword, where it lies between these two
unfoldable pub read_between : ℕ → List ℕ → ℕ → ℕ → List Line → Reads ℕ
read_between end keyword low high lines = do
  line ← next_line end lines
  number ← told_by keyword one_number line.0
  kept_if (nat_le low number && nat_le number high) Form line.0.number (number, line.1)

-- whether these three numbers are those of a tally
abbrev pub are_counts : ℕ × (ℕ × ℕ) → Tally → Bool
are_counts numbers tally = numbers.0 == tally.found && numbers.1.0 == tally.impossible && numbers.1.1 == tally.undecided

-- `summary F I U` with the numbers of these windows' entries
unfoldable pub read_summary : ℕ → List WindowRecord → List Line → Reads (Unit {0})
read_summary end windows lines = do
  line ← next_line end lines
  numbers ← told_by (codes "summary") three_numbers line.0
  kept_if (are_counts numbers (tally_of (entries_of windows))) End line.0.number (tt, line.1)

-- no line follows
abbrev pub at_end : List Line → Result (Unit {0}) ReportFault
at_end [] = Ok tt
at_end (line ∷ lines) = broken After line.number

-- the report that these lines tell, in a text that ends at the line of this number
unfoldable pub report_from : ℕ → List Line → Result ReportForm ReportFault
report_from end lines = do
  format ← read_between end (codes "gpredict") 1 2 lines
  budget ← read_between end (codes "budget") 1 1000000 format.1
  windows ← read_windows end format.0 1 (length budget.1) budget.1
  summary ← read_summary end windows.0 windows.1
  last ← at_end summary.1
  Ok (record { format = format.0; budget = budget.0; windows = windows.0 })

-- the report of a text that ends at this line, where it has lines
abbrev pub report_in : ℕ → Result (List Line) TextFault → Result ReportForm ReportFault
report_in end (Ok lines) = report_from end lines
report_in end (Err fault) = Err (Text fault)

-- the report that a text tells, or the first fault in it
abbrev pub report_of : List ℕ → Result ReportForm ReportFault
report_of bytes = report_in (end_line_of bytes) (lines_of bytes)

-- the report in what the reader gave
abbrev pub told_report : Result ReadReport ReportFault → Result ReportForm ReportFault
told_report (Ok read) = Ok read.report
told_report (Err fault) = Err fault

-- what a function gave and the lines that it left are what is read, unless memory ran out
abbrev pub Gives : {A : Type 0} → Result A ReportFault → List Line → Reads A → Type 0
Gives (Ok value) left due = due ≡ Ok (value, left)
Gives (Err fault) left due = fault ≢ Memory → due ≡ Err fault
