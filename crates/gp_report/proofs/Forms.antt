-- A report that can be told, of parts that fit, is one that can be told and read again, but for its workers' records.
use Rattle.std.proofs.Common.{◌≡◌, refl, sym, ap, ◌∙◌, subst, ℕ, zero, suc, ◌+◌, ◌<◌, ◌≤◌, ◌^◌, true, false, List, [], ◌∷◌, ◌++◌, length, map, All, arith, inl, inr, Ok}
use Rattle.std.specs.Prelude.{◌⊎◌, ◌==◌}
use Rattle.std.specs.List.{AllByRecursion, flat_map}
use Rattle.std.proofs.lemmas.List.Elements.{All-from_recursion, recursion_from_All}
use Rattle.gp_base.specs.ListLaws.{recursion_at, recursion_flat_map, recursion_flat_map_at, recursion_from_each}
use Rattle.gp_base.specs.OrderLaws.{each}
use Rattle.gp_certificate.specs.declared.step.Step.{Step}
use Rattle.gp_text.specs.declared.line.Line.{Line}
use Rattle.gp_text.specs.Numbers.{OneSpelling}
use Rattle.gp_window.specs.EventIds.{EventIdsReadExactly}
use Rattle.gp_window.specs.WindowForm.{numbers_from}
use Rattle.gp_report.specs.Records.{Answer, Entry, PropertyBody, PropertyRecord, WindowBody, WindowRecord}
use Rattle.gp_report.specs.declared.record.AnswerOf.TheVariants.{Found, Impossible, Undecided}
use Rattle.gp_report.specs.declared.record.PropertyBodyOf.TheVariants.{TooMany, Entries}
use Rattle.gp_report.specs.declared.record.WindowBodyOf.TheVariants.{TooLarge, Answers}
use Rattle.gp_report.specs.Entries.{entries_among, entries_in, entries_of, properties_in}
use Rattle.gp_report.specs.Reading.{report_from}
use Rattle.gp_report.specs.Report.{IsEntry, IsPropertyBody, IsPropertyRecord, IsReport, IsPrintableAnswer, IsPrintableStep, IsWindowBody, IsWindowRecord}
use Rattle.gp_report.specs.ReportForm.{ReportForm}
use Rattle.gp_report.specs.Telling.{HasClause, HasClauses, IsWhole, window_without_records, without_records}
use Rattle.gp_report.specs.Typed.{IsTypedAnswer, IsTypedBody, IsTypedEntry, IsTypedId, IsTypedProperty, IsTypedStep, IsTypedWindow}
use Rattle.gp_report.proofs.AnswersRead.{AnswerIs, EntryIs}
use Rattle.gp_report.proofs.PropertiesRead.{BodyIs, PropertyIs}
use Rattle.gp_report.proofs.ReportRead.{ReportIs, report_was}
use Rattle.gp_report.proofs.Rising.{rising_from_test, test_from_rising}
use Rattle.gp_report.proofs.StepsRead.{IsLow, IsSmall, StepIs}
use Rattle.gp_report.proofs.WindowsRead.{WindowBodyIs, WindowIs, WindowsAre}

-- three facts of each thing are one
each_of : {A : Type 0} (P Q R S : A → Type 0) (join : (x : A) → P x → Q x → R x → S x) (xs : List A) → AllByRecursion P xs → AllByRecursion Q xs → AllByRecursion R xs → AllByRecursion S xs
each_of P Q R S join xs p q r = recursion_from_each S xs (λ x i. join x (recursion_at P xs x p i) (recursion_at Q xs x q i) (recursion_at R xs x r i))

-- what holds of the things in each of these holds of all of them, and the other way round
flat_of : {A B : Type 0} (P : A → Type 0) (f : B → List A) (xs : List B) → AllByRecursion (λ x. AllByRecursion P (f x)) xs → AllByRecursion P (flat_map f xs)
flat_of P f xs all = recursion_flat_map P f xs (λ x i. recursion_at (λ x. AllByRecursion P (f x)) xs x all i)

flat_parts : {A B : Type 0} (P : A → Type 0) (f : B → List A) (xs : List B) → AllByRecursion P (flat_map f xs) → AllByRecursion (λ x. AllByRecursion P (f x)) xs
flat_parts P f xs all = recursion_from_each (λ x. AllByRecursion P (f x)) xs (λ x i. recursion_flat_map_at P f xs x all i)

-- ---- to what can be read again

step_to : (step : Step) → IsPrintableStep step → IsTypedStep step → HasClause step → StepIs step
step_to step told typed clause = record {
  lits_fit = typed.lits_fit;
  hints_fit = typed.hints_fit;
  lits = recursion_from_All IsLow step.clause told;
  rising = test_from_rising step.clause clause;
  hints = recursion_from_All IsSmall step.hints typed.hints;
}

steps_to : (steps : List Step) → All IsPrintableStep steps → All IsTypedStep steps → All HasClause steps → AllByRecursion StepIs steps
steps_to steps told typed clauses =
    each_of IsPrintableStep IsTypedStep HasClause StepIs step_to steps
    (recursion_from_All IsPrintableStep steps told) (recursion_from_All IsTypedStep steps typed) (recursion_from_All HasClause steps clauses)

answer_to : (answer : Answer) → IsPrintableAnswer answer → IsTypedAnswer answer → HasClauses answer → AnswerIs answer
answer_to (Found schedule) told typed clauses = (typed.0, recursion_from_All IsTypedId schedule.events typed.1)
answer_to (Impossible certificate) told typed clauses = (typed.0, steps_to certificate.steps told typed.1 clauses)
answer_to (Undecided worker from to) told typed clauses = (told.0, told.1, typed.0, typed.1)

abbrev HasEntryClauses : Entry → Type 0
HasEntryClauses entry = HasClauses entry.answer

entry_to : (entry : Entry) → IsEntry entry → IsTypedEntry entry → HasEntryClauses entry → EntryIs entry
entry_to entry told typed clauses = record {
  some = told.some;
  few = told.few;
  events = recursion_from_All IsTypedId entry.events typed.events;
  answer = answer_to entry.answer told.answer typed.answer clauses;
}

body_to : (body : PropertyBody) → IsPropertyBody body → All IsTypedEntry (entries_in body) → AllByRecursion HasEntryClauses (entries_in body) → BodyIs body
body_to TooMany told typed clauses = tt
body_to (Entries entries) told typed clauses =
    (told.0, each_of IsEntry IsTypedEntry HasEntryClauses EntryIs entry_to entries (recursion_from_All IsEntry entries told.1) (recursion_from_All IsTypedEntry entries typed) clauses)

property_to : (property : PropertyRecord) → IsPropertyRecord property → IsTypedProperty property → AllByRecursion HasEntryClauses (entries_in property.body) → PropertyIs property
property_to property told typed clauses = record { name = typed.name; body = body_to property.body told typed.entries clauses }

window_body_to : (shared : List Step) (body : WindowBody) → IsWindowBody shared body → IsTypedBody body → AllByRecursion HasEntryClauses (entries_among (properties_in body)) → WindowBodyIs shared body
window_body_to shared (TooLarge events clauses) told typed has = (told, typed.0, typed.1)
window_body_to shared (Answers properties) told typed has =
    each_of IsPropertyRecord IsTypedProperty (λ property. AllByRecursion HasEntryClauses (entries_in property.body)) PropertyIs property_to properties
    (recursion_from_All IsPropertyRecord properties told) (recursion_from_All IsTypedProperty properties typed) (flat_parts HasEntryClauses (λ (property : PropertyRecord). entries_in property.body) properties has)

none_shared : (format : ℕ) (shared : List Step) → (format ≡ 1) ⊎ (format ≡ 2) → (format ≡ 1 → shared ≡ []) → (format == 2) ≡ false → shared ≡ []
none_shared format shared (inl first) none other = none first
none_shared format shared (inr second) none other = absurd (let both : true ≡ false = ap (λ n. n == 2) (sym second) ∙ other in cc)

window_to : (format due : ℕ) (window : WindowRecord) → (format ≡ 1) ⊎ (format ≡ 2) → window.number ≡ due → IsWindowRecord format window → IsTypedWindow window → All HasClause window.shared
    → AllByRecursion HasEntryClauses (entries_among (properties_in window.body)) → WindowIs format due (window_without_records window)
window_to format due window either number told typed shared answers = record {
  number = number;
  small = subst (λ n. n < 2 ^ 32) number typed.number;
  told = record {
    steps = record {
      fits = typed.shared.0;
      steps = steps_to window.shared told.shared typed.shared.1 shared;
      none = none_shared format window.shared either told.first_format;
    };
    rest = window_body_to window.shared window.body told.body typed.body answers;
  };
  records = refl;
}

windows_to : (format due : ℕ) (windows : List WindowRecord) → (format ≡ 1) ⊎ (format ≡ 2) → map (λ (window : WindowRecord). window.number) windows ≡ numbers_from due (length windows)
    → AllByRecursion (IsWindowRecord format) windows → AllByRecursion IsTypedWindow windows → AllByRecursion (λ window. All HasClause window.shared) windows
    → AllByRecursion (λ window. AllByRecursion HasEntryClauses (entries_among (properties_in window.body))) windows → WindowsAre format due (map window_without_records windows)
windows_to format due [] either numbers told typed shared answers = tt
windows_to format due (window ∷ windows) either numbers told typed shared answers =
    let number : window.number ≡ due = cc in
    let others : map (λ (window : WindowRecord). window.number) windows ≡ numbers_from (due + 1) (length windows) = cc in (
      window_to format due window either number told.0 typed.0 shared.0 answers.0,
      windows_to format (due + 1) windows either others told.1 typed.1 shared.1 answers.1,
    )

pub bare_entries : (windows : List WindowRecord) → entries_of (map window_without_records windows) ≡ entries_of windows
bare_entries [] = refl
bare_entries (window ∷ windows) = ap (λ entries. entries_among (properties_in window.body) ++ entries) (bare_entries windows)

format_low : (format : ℕ) → (format ≡ 1) ⊎ (format ≡ 2) → (1 ≤ format) × (format ≤ 2)
format_low format (inl first) = (omega arith, omega arith)
format_low format (inr second) = (omega arith, omega arith)

pub report_to : (report : ReportForm) → IsWhole report → ReportIs (without_records report)
report_to report whole =
    let told = whole.told in
    let format = format_low report.format told.format in
    let answers : AllByRecursion (λ (window : WindowRecord). AllByRecursion HasEntryClauses (entries_among (properties_in window.body))) report.windows =
    flat_parts HasEntryClauses (λ (window : WindowRecord). entries_among (properties_in window.body)) report.windows (recursion_from_All HasEntryClauses (entries_of report.windows) whole.clauses.answers) in
    record {
      format_low = format.0;
      format_high = format.1;
      budget_some = told.budget_some;
      budget_few = told.budget_few;
      windows = windows_to report.format 1 report.windows told.format told.numbered (recursion_from_All (IsWindowRecord report.format) report.windows told.windows)
          (recursion_from_All IsTypedWindow report.windows whole.typed.windows) (recursion_from_All (λ window. All HasClause window.shared) report.windows whole.clauses.shared) answers;
      counted = rw (bare_entries report.windows) whole.typed.counted;
    }

-- ---- from what can be read again

step_told : (step : Step) → StepIs step → IsPrintableStep step
step_told step is = All-from_recursion IsLow step.clause is.lits

step_typed : (step : Step) → StepIs step → IsTypedStep step
step_typed step is = record { lits_fit = is.lits_fit; hints_fit = is.hints_fit; hints = All-from_recursion IsSmall step.hints is.hints }

step_clause : (step : Step) → StepIs step → HasClause step
step_clause step is = rising_from_test step.clause is.rising

from_each : {A : Type 0} (P Q : A → Type 0) (turn : (x : A) → P x → Q x) (xs : List A) → AllByRecursion P xs → All Q xs
from_each P Q turn xs are = All-from_recursion Q xs (each P Q turn xs are)

answer_told : (answer : Answer) → AnswerIs answer → IsPrintableAnswer answer
answer_told (Found schedule) is = tt
answer_told (Impossible certificate) is = from_each StepIs IsPrintableStep step_told certificate.steps is.1
answer_told (Undecided worker from to) is = (is.0, is.1)

answer_typed : (answer : Answer) → AnswerIs answer → IsTypedAnswer answer
answer_typed (Found schedule) is = (is.0, All-from_recursion IsTypedId schedule.events is.1)
answer_typed (Impossible certificate) is = (is.0, from_each StepIs IsTypedStep step_typed certificate.steps is.1)
answer_typed (Undecided worker from to) is = (is.2, is.3)

answer_clauses : (answer : Answer) → AnswerIs answer → HasClauses answer
answer_clauses (Found schedule) is = tt
answer_clauses (Impossible certificate) is = from_each StepIs HasClause step_clause certificate.steps is.1
answer_clauses (Undecided worker from to) is = tt

entry_told : (entry : Entry) → EntryIs entry → IsEntry entry
entry_told entry is = record { some = is.some; few = is.few; answer = answer_told entry.answer is.answer }

entry_typed : (entry : Entry) → EntryIs entry → IsTypedEntry entry
entry_typed entry is = record { events = All-from_recursion IsTypedId entry.events is.events; answer = answer_typed entry.answer is.answer }

entry_clauses : (entry : Entry) → EntryIs entry → HasEntryClauses entry
entry_clauses entry is = answer_clauses entry.answer is.answer

body_told : (body : PropertyBody) → BodyIs body → IsPropertyBody body
body_told TooMany is = tt
body_told (Entries entries) is = (is.0, from_each EntryIs IsEntry entry_told entries is.1)

body_entries : (body : PropertyBody) → BodyIs body → AllByRecursion EntryIs (entries_in body)
body_entries TooMany is = tt
body_entries (Entries entries) is = is.1

property_told : (property : PropertyRecord) → PropertyIs property → IsPropertyRecord property
property_told property is = body_told property.body is.body

property_typed : (property : PropertyRecord) → PropertyIs property → IsTypedProperty property
property_typed property is = record { name = is.name; entries = from_each EntryIs IsTypedEntry entry_typed (entries_in property.body) (body_entries property.body is.body) }

property_clauses : (property : PropertyRecord) → PropertyIs property → AllByRecursion HasEntryClauses (entries_in property.body)
property_clauses property is = each EntryIs HasEntryClauses entry_clauses (entries_in property.body) (body_entries property.body is.body)

window_body_told : (shared : List Step) (body : WindowBody) → WindowBodyIs shared body → IsWindowBody shared body
window_body_told shared (TooLarge events clauses) is = is.0
window_body_told shared (Answers properties) is = from_each PropertyIs IsPropertyRecord property_told properties is

window_body_typed : (shared : List Step) (body : WindowBody) → WindowBodyIs shared body → IsTypedBody body
window_body_typed shared (TooLarge events clauses) is = (is.1, is.2)
window_body_typed shared (Answers properties) is = from_each PropertyIs IsTypedProperty property_typed properties is

window_body_clauses : (shared : List Step) (body : WindowBody) → WindowBodyIs shared body → AllByRecursion HasEntryClauses (entries_among (properties_in body))
window_body_clauses shared (TooLarge events clauses) is = tt
window_body_clauses shared (Answers properties) is =
    flat_of HasEntryClauses (λ (property : PropertyRecord). entries_in property.body) properties (each PropertyIs (λ property. AllByRecursion HasEntryClauses (entries_in property.body)) property_clauses properties is)

-- what follows of each window
record WindowFrom (format : ℕ) (window : WindowRecord) : Type 0 where
  told : IsWindowRecord format window
  typed : IsTypedWindow window
  shared : All HasClause window.shared
  answers : AllByRecursion HasEntryClauses (entries_among (properties_in window.body))

not_second : (format : ℕ) → format ≡ 1 → (format == 2) ≡ false
not_second format first = ap (λ n. n == 2) first

window_from : (format due : ℕ) (window : WindowRecord) → WindowIs format due window → WindowFrom format window
window_from format due window is = record {
  told = record {
    shared = from_each StepIs IsPrintableStep step_told window.shared is.told.steps.steps;
    first_format = λ first. is.told.steps.none (not_second format first);
    body = window_body_told window.shared window.body is.told.rest;
  };
  typed = record {
    number = subst (λ n. n < 2 ^ 32) (sym is.number) is.small;
    shared = (is.told.steps.fits, from_each StepIs IsTypedStep step_typed window.shared is.told.steps.steps);
    body = window_body_typed window.shared window.body is.told.rest;
  };
  shared = from_each StepIs HasClause step_clause window.shared is.told.steps.steps;
  answers = window_body_clauses window.shared window.body is.told.rest;
}

windows_from : (format due : ℕ) (windows : List WindowRecord) → WindowsAre format due windows → AllByRecursion (WindowFrom format) windows
windows_from format due [] are = tt
windows_from format due (window ∷ windows) are = (window_from format due window are.0, windows_from format (due + 1) windows are.1)

windows_numbered : (format due : ℕ) (windows : List WindowRecord) → WindowsAre format due windows → map (λ (window : WindowRecord). window.number) windows ≡ numbers_from due (length windows)
windows_numbered format due [] are = refl
windows_numbered format due (window ∷ windows) are =
    ap (λ n. n ∷ map (λ (window : WindowRecord). window.number) windows) are.0.number ∙ ap (λ ns. due ∷ ns) (windows_numbered format (due + 1) windows are.1)

windows_bare : (format due : ℕ) (windows : List WindowRecord) → WindowsAre format due windows → map window_without_records windows ≡ windows
windows_bare format due [] are = refl
windows_bare format due (window ∷ windows) are =
    let bare : window_without_records window ≡ window =
    λ i. record { number = window.number; shared = window.shared; body = window.body; records = sym are.0.records i } in
    ap (λ w. w ∷ map window_without_records windows) bare ∙ ap (λ ws. window ∷ ws) (windows_bare format (due + 1) windows are.1)

first_or_second : (format : ℕ) → 1 ≤ format → format ≤ 2 → (format ≡ 1) ⊎ (format ≡ 2)
first_or_second zero low high = absurd (omega arith)
first_or_second (suc zero) low high = inl refl
first_or_second (suc (suc zero)) low high = inr refl
first_or_second (suc (suc (suc more))) low high = absurd (omega arith)

pub report_whole : (report : ReportForm) → ReportIs report → IsWhole report
report_whole report is =
    let windows = windows_from report.format 1 report.windows is.windows in
    record {
      told = record {
        format = first_or_second report.format is.format_low is.format_high;
        budget_some = is.budget_some;
        budget_few = is.budget_few;
        numbered = windows_numbered report.format 1 report.windows is.windows;
        windows = from_each (WindowFrom report.format) (IsWindowRecord report.format) (λ window from. from.told) report.windows windows;
      };
      typed = record {
        windows = from_each (WindowFrom report.format) IsTypedWindow (λ window from. from.typed) report.windows windows;
        counted = is.counted;
      };
      clauses = record {
        shared = from_each (WindowFrom report.format) (λ window. All HasClause window.shared) (λ window from. from.shared) report.windows windows;
        answers = All-from_recursion HasEntryClauses (entries_of report.windows)
            (flat_of HasEntryClauses (λ (window : WindowRecord). entries_among (properties_in window.body)) report.windows
            (each (WindowFrom report.format) (λ window. AllByRecursion HasEntryClauses (entries_among (properties_in window.body))) (λ window from. from.answers) report.windows windows));
      };
    }

pub report_bare : (report : ReportForm) → ReportIs report → without_records report ≡ report
report_bare report is = ap (λ (windows : List WindowRecord). record { format = report.format; budget = report.budget; windows = windows }) (windows_bare report.format 1 report.windows is.windows)

-- a report that is read is one that a text can tell
pub is_report : OneSpelling → EventIdsReadExactly → (end : ℕ) (lines : List Line) (report : ReportForm) → report_from end lines ≡ Ok report → IsReport report
is_report spelled exactly end lines report e = (report_whole report (report_was spelled exactly end lines report e).1).told
