-- Answers and entries are read as they are written.
use Rattle.std.proofs.Common.{◌≡◌, refl, ap, ◌∙◌, subst, ℕ, zero, suc, ◌+◌, ◌<◌, ◌≤◌, ◌^◌, Bool, true, false, cond, List, [], ◌∷◌, length, map, codes, decimal, Result, Ok, arith}
use Rattle.std.specs.Prelude.{Some, ◌&&◌, ◌==◌, nat_le}
use Rattle.std.specs.List.{AllByRecursion}
use Rattle.std.proofs.lemmas.Bool.{eqb-true}
use Rattle.std.proofs.lemmas.Bool.Decides.{nat_tests}
use Rattle.gp_text.specs.declared.line.Line.{Line}
use Rattle.gp_text.specs.Numbers.{OneSpelling, small_number_of}
use Rattle.gp_window.specs.declared.schedule.EventId.{EventId}
use Rattle.gp_window.specs.EventIds.{EventIdsReadExactly, event_id_of, event_id_text}
use Rattle.gp_report.specs.declared.fault.ReportFault.{ReportFault}
use Rattle.gp_report.specs.declared.fault.ReportRule.TheVariants.{Form, Order}
use Rattle.gp_report.specs.Records.{Answer, Entry}
use Rattle.gp_report.specs.declared.record.AnswerOf.TheVariants.{Found, Impossible, Undecided}
use Rattle.gp_report.specs.Printed.{answer_lines, entries_lines, instance_words}
use Rattle.gp_report.specs.Reading.{Reads, ◌>>=◌, answer_at, begins_with, is_undecided_with, kept_if, next_line, number_and_words, one_number, read_answer, read_entries, read_entry, read_found, read_impossible, read_instance, read_list, read_steps, read_undecided, read_words, three_numbers, told_by, with_front}
use Rattle.gp_report.specs.Typed.{IsTypedId}
use Rattle.gp_report.proofs.ListsRead.{list_was, words_was}
use Rattle.gp_report.proofs.NumbersRead.{both_was, line_of_one, line_of_three, told_was}
use Rattle.gp_report.proofs.StepsRead.{StepIs, front_was, steps_was}
use Rattle.gp_report.proofs.Taking.{Takes, bind_ok, kept_ok, next_was, ok_is, then_takes, words_in}
use Rattle.gp_report.proofs.WordsRead.{id_words, small_words}

-- an answer that can be told and read again
abbrev pub AnswerIs : Answer → Type 0
AnswerIs (Found schedule) = (length schedule.events < 2 ^ 64) × AllByRecursion IsTypedId schedule.events
AnswerIs (Impossible certificate) = (length certificate.steps < 2 ^ 64) × AllByRecursion StepIs certificate.steps
AnswerIs (Undecided worker from to) = (1 ≤ worker) × (worker ≤ 16) × (from < 2 ^ 32) × (to < 2 ^ 32)

-- an entry that can be told and read again
pub record EntryIs (entry : Entry) : Type 0 where
  pub some : 1 ≤ length entry.events
  pub few : length entry.events ≤ 6
  pub events : AllByRecursion IsTypedId entry.events
  pub answer : AnswerIs entry.answer

-- these are the lines of an answer
abbrev AnswerWas : Line → List Line → Answer → List Line → Type 0
AnswerWas line lines answer left = Takes (line ∷ lines) (answer_lines answer) left × AnswerIs answer

found_was : OneSpelling → EventIdsReadExactly → (end : ℕ) (line : Line) (lines : List Line) (y : Answer × List Line) → read_found end line lines ≡ Ok y → AnswerWas line lines y.0 y.1
unfolding read_found
found_was spelled exactly end line lines y e =
    let a = bind_ok (told_by (codes "found") one_number line) (λ count. read_list event_id_of end line.number count lines >>= λ events. Ok (Found (record { events = events.0.0 }), events.1)) y e in
    let b = bind_ok (read_list event_id_of end line.number a.0 lines) (λ events. Ok (Found (record { events = events.0.0 }), events.1)) y a.2 in
    let count = line_of_one spelled (codes "found") line a.0 a.1 in
    let events = list_was event_id_of event_id_text IsTypedId (id_words exactly) end line.number a.0 lines b.0 b.1 in
    let made : Answer × List Line = (Found (record { events = b.0.0.0 }), b.0.1) in
    let words : line.words ≡ codes "found" ∷ decimal (length b.0.0.0) ∷ [] = rw events.2 count.0 in
    subst (λ (z : Answer × List Line). AnswerWas line lines z.0 z.1) {x = made} (ok_is made y b.2) (
      ap (λ v. v ∷ words_in lines) words ∙ ap (λ vs. (codes "found" ∷ decimal (length b.0.0.0) ∷ []) ∷ vs) events.0,
      (rw events.2 count.1, events.1),
    )

impossible_was : OneSpelling → (end : ℕ) (line : Line) (lines : List Line) (y : Answer × List Line) → read_impossible end line lines ≡ Ok y → AnswerWas line lines y.0 y.1
unfolding read_impossible
impossible_was spelled end line lines y e =
    let a = bind_ok (told_by (codes "impossible") one_number line) (λ count. read_steps end count lines >>= λ steps. Ok (Impossible (record { steps = steps.0 }), steps.1)) y e in
    let b = bind_ok (read_steps end a.0 lines) (λ steps. Ok (Impossible (record { steps = steps.0 }), steps.1)) y a.2 in
    let count = line_of_one spelled (codes "impossible") line a.0 a.1 in
    let steps = steps_was spelled end a.0 lines b.0 b.1 in
    let made : Answer × List Line = (Impossible (record { steps = b.0.0 }), b.0.1) in
    let words : line.words ≡ codes "impossible" ∷ decimal (length b.0.0) ∷ [] = rw steps.1 count.0 in
    subst (λ (z : Answer × List Line). AnswerWas line lines z.0 z.1) {x = made} (ok_is made y b.2) (
      ap (λ v. v ∷ words_in lines) words ∙ ap (λ vs. (codes "impossible" ∷ decimal (length b.0.0) ∷ []) ∷ vs) steps.0.0,
      (rw steps.1 count.1, steps.0.1),
    )

undecided_tests : (worker from to : ℕ) → is_undecided_with worker from to ≡ true → AnswerIs (Undecided worker from to)
undecided_tests worker from to test = (grind (arith, nat_tests), grind (arith, nat_tests), grind (arith, nat_tests), grind (arith, nat_tests))

undecided_was : OneSpelling → (line : Line) (lines : List Line) (answer : Answer) → read_undecided line ≡ Ok answer → AnswerWas line lines answer lines
unfolding read_undecided
undecided_was spelled line lines answer e =
    let a = bind_ok (told_by (codes "undecided") three_numbers line) (λ numbers. kept_if (is_undecided_with numbers.0 numbers.1.0 numbers.1.1) Form line.number (Undecided numbers.0 numbers.1.0 numbers.1.1)) answer e in
    let b = kept_ok (is_undecided_with a.0.0 a.0.1.0 a.0.1.1) Form line.number (Undecided a.0.0 a.0.1.0 a.0.1.1) answer a.2 in
    let numbers = line_of_three spelled (codes "undecided") line a.0 a.1 in
    subst (λ (z : Answer). AnswerWas line lines z lines) {x = Undecided a.0.0 a.0.1.0 a.0.1.1} b.1 (
      ap (λ v. v ∷ words_in lines) numbers.0,
      undecided_tests a.0.0 a.0.1.0 a.0.1.1 b.0,
    )

-- what a choice gave
pub chosen_was : {A : Type 0} (test : Bool) (first second : Result A ReportFault) (P : A → Type 0) (y : A) → cond test first second ≡ Ok y
    → (first ≡ Ok y → P y) → (second ≡ Ok y → P y) → P y
chosen_was true first second P y e one other = one e
chosen_was false first second P y e one other = other e

answer_at_was : OneSpelling → EventIdsReadExactly → (end : ℕ) (line : Line) (lines : List Line) (y : Answer × List Line) → answer_at end line lines ≡ Ok y → AnswerWas line lines y.0 y.1
unfolding answer_at
answer_at_was spelled exactly end line lines y e =
    let P : Answer × List Line → Type 0 = λ z. AnswerWas line lines z.0 z.1 in
    let others : Reads Answer = cond (begins_with (codes "impossible") line.words) (read_impossible end line lines) (read_undecided line >>= λ answer. Ok (answer, lines)) in
    chosen_was (begins_with (codes "found") line.words) (read_found end line lines) others P y e
    (found_was spelled exactly end line lines y)
    (λ f. chosen_was (begins_with (codes "impossible") line.words) (read_impossible end line lines) (read_undecided line >>= λ answer. Ok (answer, lines)) P y f
    (impossible_was spelled end line lines y)
    (λ g.
    let a = bind_ok (read_undecided line) (λ answer. Ok (answer, lines)) y g in
    subst P {x = (a.0, lines)} (ok_is (a.0, lines) y a.2) (undecided_was spelled line lines a.0 a.1)))

-- an answer that is read was written
pub answer_was : OneSpelling → EventIdsReadExactly → (end : ℕ) (lines : List Line) (y : Answer × List Line) → read_answer end lines ≡ Ok y → Takes lines (answer_lines y.0) y.1 × AnswerIs y.0
unfolding read_answer
answer_was spelled exactly end lines y e =
    let a = bind_ok (next_line end lines) (λ line. answer_at end line.0 line.1) y e in
    rw (next_was end lines a.0 a.1) (answer_at_was spelled exactly end a.0.0 a.0.1 y a.2)

number_and_words_was : OneSpelling → (words : List (List ℕ)) (told : ℕ × List (List ℕ)) → number_and_words words ≡ Some told → words ≡ decimal told.0 ∷ told.1
number_and_words_was spelled [] told e = absurd (cc)
number_and_words_was spelled (number ∷ words) told e =
    let parts = both_was (small_number_of number) (Some words) told e in
    let behind : words ≡ told.1 = cc in
    ap (λ w. w ∷ words) ((small_words spelled).was number told.0 parts.0).0 ∙ ap (λ ws. decimal told.0 ∷ ws) behind

-- an instance of this number was read
record InstanceWas (due : ℕ) (line : Line) (events : List EventId) : Type 0 where
  words : line.words ≡ codes "instance" ∷ decimal due ∷ map event_id_text events
  some : 1 ≤ length events
  few : length events ≤ 6
  typed : AllByRecursion IsTypedId events

some_and_few : (n : ℕ) → (nat_le 1 n && nat_le n 6) ≡ true → (1 ≤ n) × (n ≤ 6)
some_and_few n test = (grind (arith, nat_tests), grind (arith, nat_tests))

instance_was : OneSpelling → EventIdsReadExactly → (due : ℕ) (line : Line) (events : List EventId) → read_instance due line ≡ Ok events → InstanceWas due line events
unfolding read_instance
instance_was spelled exactly due line events e =
    let a = bind_ok (told_by (codes "instance") number_and_words line) (λ told. read_words event_id_of line.number told.1 >>= λ events. kept_if (nat_le 1 (length events) && nat_le (length events) 6) Form line.number events >>= λ few. kept_if (told.0 == due) Order line.number few) events e in
    let b = bind_ok (read_words event_id_of line.number a.0.1) (λ events. kept_if (nat_le 1 (length events) && nat_le (length events) 6) Form line.number events >>= λ few. kept_if (a.0.0 == due) Order line.number few) events a.2 in
    let c = bind_ok (kept_if (nat_le 1 (length b.0) && nat_le (length b.0) 6) Form line.number b.0) (λ few. kept_if (a.0.0 == due) Order line.number few) events b.2 in
    let few = kept_ok (nat_le 1 (length b.0) && nat_le (length b.0) 6) Form line.number b.0 c.0 c.1 in
    let next = kept_ok (a.0.0 == due) Order line.number c.0 events c.2 in
    let told = told_was (codes "instance") number_and_words line a.0 a.1 in
    let behind = number_and_words_was spelled told.behind a.0 told.tells in
    let ids = words_was event_id_of event_id_text IsTypedId (id_words exactly) line.number a.0.1 b.0 b.1 in
    let number : a.0.0 ≡ due = eqb-true a.0.0 due next.0 in
    let sizes = some_and_few (length b.0) few.0 in
    subst (λ (z : List EventId). InstanceWas due line z) {x = b.0} (few.1 ∙ next.1) (record {
      words = told.is ∙ ap (λ ws. codes "instance" ∷ ws) (behind ∙ ap (λ n. decimal n ∷ a.0.1) number ∙ ap (λ ws. decimal due ∷ ws) ids.0);
      some = sizes.0;
      few = sizes.1;
      typed = ids.1;
    })

-- the lines of the entry of this number
abbrev pub entry_lines : ℕ → Entry → List (List (List ℕ))
entry_lines number entry = instance_words number entry ∷ answer_lines entry.answer

-- an entry that is read was written
entry_was : OneSpelling → EventIdsReadExactly → (end due : ℕ) (lines : List Line) (y : Entry × List Line) → read_entry end due lines ≡ Ok y → Takes lines (entry_lines due y.0) y.1 × EntryIs y.0
unfolding read_entry
entry_was spelled exactly end due lines y e =
    let a = bind_ok (next_line end lines) (λ line. read_instance due line.0 >>= λ events. read_answer end line.1 >>= λ answer. Ok (record { events = events; answer = answer.0 }, answer.1)) y e in
    let b = bind_ok (read_instance due a.0.0) (λ events. read_answer end a.0.1 >>= λ answer. Ok (record { events = events; answer = answer.0 }, answer.1)) y a.2 in
    let c = bind_ok (read_answer end a.0.1) (λ answer. Ok (record { events = b.0; answer = answer.0 }, answer.1)) y b.2 in
    let first = next_was end lines a.0 a.1 in
    let instance = instance_was spelled exactly due a.0.0 b.0 b.1 in
    let answer = answer_was spelled exactly end a.0.1 c.0 c.1 in
    let made : Entry × List Line = (record { events = b.0; answer = c.0.0 }, c.0.1) in
    subst (λ (z : Entry × List Line). Takes lines (entry_lines due z.0) z.1 × EntryIs z.0) {x = made} (ok_is made y c.2) (
      ap words_in first ∙ ap (λ v. v ∷ words_in a.0.1) instance.words ∙ ap (λ vs. (codes "instance" ∷ decimal due ∷ map event_id_text b.0) ∷ vs) answer.0,
      record { some = instance.some; few = instance.few; events = instance.typed; answer = answer.1 },
    )

-- entries that are read were written
pub entries_was : OneSpelling → EventIdsReadExactly → (end due count : ℕ) (lines : List Line) (y : List Entry × List Line) → read_entries end due count lines ≡ Ok y
    → Takes lines (entries_lines due y.0) y.1 × AllByRecursion EntryIs y.0 × (length y.0 ≡ count)
entries_was spelled exactly end due zero lines y e =
    subst (λ (z : List Entry × List Line). Takes lines (entries_lines due z.0) z.1 × AllByRecursion EntryIs z.0 × (length z.0 ≡ 0)) {x = ([], lines)} (ok_is ([], lines) y e) (refl, tt, refl)
entries_was spelled exactly end due (suc more) lines y e =
    let a = bind_ok (read_entry end due lines) (λ entry. with_front (entry.0 ∷ []) (read_entries end (due + 1) more entry.1)) y e in
    let first = entry_was spelled exactly end due lines a.0 a.1 in
    let b = front_was (a.0.0 ∷ []) (read_entries end (due + 1) more a.0.1) y a.2 in
    let others = entries_was spelled exactly end (due + 1) more a.0.1 b.0 b.1 in
    subst (λ (z : List Entry × List Line). Takes lines (entries_lines due z.0) z.1 × AllByRecursion EntryIs z.0 × (length z.0 ≡ suc more)) {x = (a.0.0 ∷ b.0.0, b.0.1)} b.2
    (then_takes lines a.0.1 b.0.1 (entry_lines due a.0.0) (entries_lines (due + 1) b.0.0) first.0 others.0, (first.1, others.1), ap suc others.2)
