-- Each line of a report is plain.
use Rattle.std.proofs.Common.{◌≡◌, refl, ℕ, ◌+◌, ◌-◌, ◌<◌, ◌≤◌, ◌^◌, Bool, true, false, if◌then◌else◌, ◌==◌, ◌⊎◌, length, map, List, [], ◌∷◌, ◌++◌, codes, decimal, arith, All}
use Rattle.std.specs.List.{AllByRecursion, flat_map}
use Rattle.std.proofs.lemmas.List.{length-map}
use Rattle.std.proofs.lemmas.List.Elements.{recursion_from_All}
use Rattle.gp_clause.specs.declared.lit.Lit.{Lit}
use Rattle.gp_certificate.specs.declared.step.Step.{Step}
use Rattle.gp_text.specs.Spelling.{IsPlainLine, PlainWords, ReadsAgain}
use Rattle.gp_window.specs.EventIds.{event_id_text}
use Rattle.gp_writer.specs.Lines.{in_lines}
use Rattle.gp_writer.specs.Spelled.{lit_word}
use Rattle.gp_writer.specs.Steps.{step_lines}
use Rattle.gp_report.specs.Records.{Answer, Entry, PropertyBody, PropertyRecord, WindowBody, WindowRecord}
use Rattle.gp_report.specs.declared.record.AnswerOf.TheVariants.{Found, Impossible, Undecided}
use Rattle.gp_report.specs.declared.record.PropertyBodyOf.TheVariants.{TooMany, Entries}
use Rattle.gp_report.specs.declared.record.WindowBodyOf.TheVariants.{TooLarge, Answers}
use Rattle.gp_report.specs.Entries.{count_of, entries_in, entries_of, is_found, is_impossible, is_undecided}
use Rattle.gp_report.specs.Laws.{ReportsArePlain}
use Rattle.gp_report.specs.Printed.{answer_lines, count_word, entries_lines, instance_words, property_lines, report_lines, shared_lines, summary_words, window_body_lines, window_lines}
use Rattle.gp_report.specs.Report.{IsEntry, IsPropertyBody, IsPropertyRecord, IsReport, IsPrintableAnswer, IsPrintableStep, IsWindowBody, IsWindowRecord}
use Rattle.gp_report.specs.ReportForm.{ReportForm}
use Rattle.gp_report.specs.Typed.{AreCounted, AreTypedSteps, IsTyped, IsTypedAnswer, IsTypedBody, IsTypedEntry, IsTypedId, IsTypedProperty, IsTypedStep, IsTypedWindow}
use Rattle.gp_report.proofs.Words.{ArePlain, id_word, IsListWord, is_keyword, keyword_word, line, list_lines, literal, mapped, name_word, number}

append_plain : (xs ys : List (List (List ℕ))) → ArePlain xs → ArePlain ys → ArePlain (xs ++ ys)
append_plain [] ys front back = back
append_plain (x ∷ xs) ys front back = (front.0, append_plain xs ys front.1 back)

-- two facts of each thing
abbrev Both : {A : Type 0} → (A → Type 0) → (A → Type 0) → List A → Type 0
Both P Q xs = AllByRecursion (λ x. P x × Q x) xs

both : {A : Type 0} (P Q : A → Type 0) (xs : List A) → All P xs → All Q xs → Both P Q xs
both P Q xs told typed = recursion_from_All (λ x. P x × Q x) xs (λ k d within. (told k d within, typed k d within))

-- the lines of things, each of which has plain ones
flat_plain : {A : Type 0} (f : A → List (List (List ℕ))) (P : A → Type 0) (each : (x : A) → P x → ArePlain (f x)) (xs : List A) → AllByRecursion P xs → ArePlain (flat_map f xs)
flat_plain f P each [] are = tt
flat_plain f P each (x ∷ xs) are = append_plain (f x) (flat_map f xs) (each x are.0) (flat_plain f P each xs are.1)

-- a keyword and numbers
numbers_line : (laws : PlainWords) (keyword : List ℕ) (numbers : List ℕ) → is_keyword keyword ≡ true → AllByRecursion (λ n. n < 2 ^ 64) numbers → length numbers ≤ 99 → IsPlainLine (keyword ∷ map decimal numbers)
numbers_line laws keyword numbers is fit few =
    line keyword (map decimal numbers) (keyword_word keyword is) (mapped decimal (λ n. n < 2 ^ 64) (number laws) numbers fit) (omega (arith, few, length-map numbers decimal))

step_plain : (laws : PlainWords) (step : Step) → IsPrintableStep step × IsTypedStep step → ArePlain (step_lines step)
step_plain laws step is =
    let lits = mapped lit_word (λ (lit : Lit). lit.variable < 2 ^ 31 - 1) (literal laws) step.clause (recursion_from_All _ step.clause is.0) in
    let hints = mapped decimal (λ hint. hint < 2 ^ 32) (λ hint lt. number laws hint (omega arith)) step.hints (recursion_from_All _ step.hints is.1.hints) in (
      numbers_line laws (codes "step") (length step.clause ∷ length step.hints ∷ []) refl (is.1.lits_fit, (is.1.hints_fit, tt)) (omega arith),
      append_plain (in_lines (map lit_word step.clause)) (in_lines (map decimal step.hints)) (list_lines (map lit_word step.clause) lits) (list_lines (map decimal step.hints) hints),
    )

steps_plain : (laws : PlainWords) (steps : List Step) → All IsPrintableStep steps → All IsTypedStep steps → ArePlain (flat_map step_lines steps)
steps_plain laws steps told typed =
    flat_plain step_lines (λ step. IsPrintableStep step × IsTypedStep step) (step_plain laws) steps (both IsPrintableStep IsTypedStep steps told typed)

answer_plain : (laws : PlainWords) (answer : Answer) → IsPrintableAnswer answer → IsTypedAnswer answer → ArePlain (answer_lines answer)
answer_plain laws (Found schedule) told typed = (
  numbers_line laws (codes "found") (length schedule.events ∷ []) refl (typed.0, tt) (omega arith),
  list_lines (map event_id_text schedule.events) (mapped event_id_text IsTypedId (id_word laws) schedule.events (recursion_from_All IsTypedId schedule.events typed.1)),
)
answer_plain laws (Impossible certificate) told typed = (
  numbers_line laws (codes "impossible") (length certificate.steps ∷ []) refl (typed.0, tt) (omega arith),
  steps_plain laws certificate.steps told typed.1,
)
answer_plain laws (Undecided worker from to) told typed = (
  numbers_line laws (codes "undecided") (worker ∷ from ∷ to ∷ []) refl (omega (arith, told.1), (omega (arith, typed.0), (omega (arith, typed.1), tt))) (omega arith),
  tt,
)

instance_plain : (laws : PlainWords) (n : ℕ) (entry : Entry) → n < 2 ^ 64 → IsEntry entry → IsTypedEntry entry → IsPlainLine (instance_words n entry)
instance_plain laws n entry lt is typed =
    line (codes "instance") (decimal n ∷ map event_id_text entry.events) (keyword_word (codes "instance") refl)
    (number laws n lt, mapped event_id_text IsTypedId (id_word laws) entry.events (recursion_from_All IsTypedId entry.events typed.events))
    (omega (arith, length-map entry.events event_id_text, is.few))

entries_plain : (laws : PlainWords) (n : ℕ) (entries : List Entry) → n + length entries ≤ 10000 → Both IsEntry IsTypedEntry entries → ArePlain (entries_lines n entries)
entries_plain laws n [] few are = tt
entries_plain laws n (entry ∷ more) few are =
    append_plain (instance_words n entry ∷ answer_lines entry.answer) (entries_lines (n + 1) more)
    (instance_plain laws n entry (omega arith) are.0.0 are.0.1, answer_plain laws entry.answer are.0.0.answer are.0.1.answer)
    (entries_plain laws (n + 1) more (omega arith) are.1)

count_plain : (laws : PlainWords) (body : PropertyBody) → IsPropertyBody body → IsListWord (count_word body)
count_plain laws TooMany told = keyword_word (codes "toomany") refl
count_plain laws (Entries entries) told = number laws (length entries) (omega (arith, told.0))

body_entries_plain : (laws : PlainWords) (body : PropertyBody) → IsPropertyBody body → All IsTypedEntry (entries_in body) → ArePlain (entries_lines 0 (entries_in body))
body_entries_plain laws TooMany told typed = tt
body_entries_plain laws (Entries entries) told typed =
    entries_plain laws 0 entries (omega (arith, told.0)) (both IsEntry IsTypedEntry entries told.1 typed)

property_plain : (laws : PlainWords) (property : PropertyRecord) → IsPropertyRecord property × IsTypedProperty property → ArePlain (property_lines property)
property_plain laws property is = (
  line (codes "property") (property.name ∷ count_word property.body ∷ []) (keyword_word (codes "property") refl) (name_word laws property.name is.1.name, (count_plain laws property.body is.0, tt)) (omega arith),
  body_entries_plain laws property.body is.0 is.1.entries,
)

shared_plain : (laws : PlainWords) (told : Bool) (shared : List Step) → All IsPrintableStep shared → AreTypedSteps shared
    → ArePlain (if told then (codes "shared" ∷ decimal (length shared) ∷ []) ∷ flat_map step_lines shared else [])
shared_plain laws true shared are typed = (
  numbers_line laws (codes "shared") (length shared ∷ []) refl (typed.0, tt) (omega arith),
  steps_plain laws shared are typed.1,
)
shared_plain laws false shared are typed = tt

window_body_plain : (laws : PlainWords) (format : ℕ) (shared : List Step) (body : WindowBody) → All IsPrintableStep shared → IsWindowBody shared body → AreTypedSteps shared → IsTypedBody body → ArePlain (window_body_lines format shared body)
window_body_plain laws format shared (TooLarge events clauses) told is fit typed = (
  numbers_line laws (codes "toolarge") (events ∷ clauses ∷ []) refl (typed.0, (typed.1, tt)) (omega arith),
  tt,
)
window_body_plain laws format shared (Answers properties) told is fit typed =
    append_plain (shared_lines format shared) (flat_map property_lines properties) (shared_plain laws (format == 2) shared told fit)
    (flat_plain property_lines (λ property. IsPropertyRecord property × IsTypedProperty property) (property_plain laws) properties (both IsPropertyRecord IsTypedProperty properties is typed))

window_plain : (laws : PlainWords) (format : ℕ) (window : WindowRecord) → IsWindowRecord format window × IsTypedWindow window → ArePlain (window_lines format window)
window_plain laws format window is = (
  numbers_line laws (codes "window") (window.number ∷ []) refl (omega (arith, is.1.number), tt) (omega arith),
  window_body_plain laws format window.shared window.body is.0.shared is.0.body is.1.shared is.1.body,
)

summary_plain : (laws : PlainWords) (entries : List Entry) → AreCounted entries → IsPlainLine (summary_words entries)
summary_plain laws entries are =
    numbers_line laws (codes "summary") (count_of is_found entries ∷ count_of is_impossible entries ∷ count_of is_undecided entries ∷ []) refl (are.found, (are.impossible, (are.undecided, tt))) (omega arith)

format_fits : (format : ℕ) → (format ≡ 1) ⊎ (format ≡ 2) → format < 2 ^ 64
format_fits format is = grind arith

report_plain : (laws : PlainWords) (report : ReportForm) → IsReport report → IsTyped report → ArePlain (report_lines report)
report_plain laws report is typed = (
  numbers_line laws (codes "gpredict") (report.format ∷ []) refl (format_fits report.format is.format, tt) (omega arith),
  (
    numbers_line laws (codes "budget") (report.budget ∷ []) refl (omega (arith, is.budget_few), tt) (omega arith),
    append_plain (flat_map (window_lines report.format) report.windows) (summary_words (entries_of report.windows) ∷ [])
        (flat_plain (window_lines report.format) (λ window. IsWindowRecord report.format window × IsTypedWindow window) (window_plain laws report.format) report.windows (both (IsWindowRecord report.format) IsTypedWindow report.windows is.windows typed.windows))
        (summary_plain laws (entries_of report.windows) typed.counted, tt),
  ),
)

pub reports_are_plain_lem : PlainWords → ReadsAgain → ReportsArePlain
reports_are_plain_lem laws again = record {
  plain = report_plain laws;
  again = λ report is typed. again (report_lines report) (report_plain laws report is typed);
}
