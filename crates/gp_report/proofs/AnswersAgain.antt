-- Answers and entries that are written are read.
use Rattle.std.proofs.Common.{◌≡◌, refl, ap, ◌∙◌, ℕ, ◌+◌, ◌<◌, ◌≤◌, ◌^◌, true, false, List, [], ◌∷◌, ◌++◌, length, map, codes, decimal, Ok, append_assoc, arith}
use Rattle.std.specs.Prelude.{Some, ◌&&◌, ◌==◌, nat_le}
use Rattle.std.specs.List.{AllByRecursion, flat_map}
use Rattle.std.specs.Str.{bytes_eq}
use Rattle.std.proofs.lemmas.Bool.{eq-eqb}
use Rattle.std.proofs.lemmas.Bool.Decides.{nat_tests}
use Rattle.gp_text.specs.declared.line.Line.{Line}
use Rattle.gp_text.specs.Numbers.{OneSpelling, small_number_of}
use Rattle.gp_window.specs.declared.schedule.Schedule.{Schedule}
use Rattle.gp_window.specs.EventIds.{EventIdsReadExactly, event_id_of, event_id_text}
use Rattle.gp_certificate.specs.declared.certificate.Certificate.{Certificate}
use Rattle.gp_writer.specs.Lines.{in_lines}
use Rattle.gp_writer.specs.Steps.{step_lines}
use Rattle.gp_report.specs.Records.{Answer, Entry}
use Rattle.gp_report.specs.declared.record.AnswerOf.TheVariants.{Found, Impossible, Undecided}
use Rattle.gp_report.specs.Printed.{answer_lines, entries_lines, instance_words}
use Rattle.gp_report.specs.Reading.{answer_at, begins_with, is_undecided_with, number_and_words, one_number, read_answer, read_entries, read_entry, read_found, read_impossible, read_instance, read_list, read_steps, read_undecided, read_words, three_numbers, told_by}
use Rattle.gp_report.specs.Typed.{IsTypedId}
use Rattle.gp_report.proofs.AnswersRead.{AnswerIs, EntryIs, entry_lines}
use Rattle.gp_report.proofs.ListsRead.{ListAgain, list_again, words_again}
use Rattle.gp_report.proofs.NumbersRead.{begins_again, one_again, three_again, told_again}
use Rattle.gp_report.proofs.StepsRead.{steps_again}
use Rattle.gp_report.proofs.Taking.{Again, Next, next_again, words_in}
use Rattle.gp_report.proofs.WordsRead.{id_words, small_words}

-- a line begins with no other keyword
pub begins_other : (keyword first : List ℕ) (line : Line) (behind : List (List ℕ)) → line.words ≡ first ∷ behind → bytes_eq first keyword ≡ false → begins_with keyword line.words ≡ false
begins_other keyword first line behind words other = rw words other

found_again : OneSpelling → EventIdsReadExactly → (end : ℕ) (lines : List Line) (schedule : Schedule) (rest : List (List (List ℕ)))
    → AnswerIs (Found schedule) → words_in lines ≡ answer_lines (Found schedule) ++ rest → Again (read_answer end lines) (Found schedule) rest
unfolding read_answer answer_at read_found
found_again spelled exactly end lines schedule rest is words =
    let head = codes "found" ∷ decimal (length schedule.events) ∷ [] in
    let list = in_lines (map event_id_text schedule.events) in
    let first : Next lines head (list ++ rest) = next_again lines head (list ++ rest) words in
    let begins : begins_with (codes "found") first.line.words ≡ true = begins_again (codes "found") first.line (decimal (length schedule.events) ∷ []) first.words in
    let count : told_by (codes "found") one_number first.line ≡ Ok (length schedule.events) = one_again spelled (codes "found") first.line (length schedule.events) is.0 first.words in
    let events : ListAgain (read_list event_id_of end first.line.number (length schedule.events) first.left) schedule.events rest =
    list_again event_id_of event_id_text IsTypedId (id_words exactly) end first.line.number first.left schedule.events rest is.1 first.behind in
    record {
      left = events.left;
      is = ap (read_answer end) first.is ∙ rw (begins, count, events.is) refl;
      words = events.words;
    }

impossible_again : OneSpelling → (end : ℕ) (lines : List Line) (certificate : Certificate) (rest : List (List (List ℕ)))
    → AnswerIs (Impossible certificate) → words_in lines ≡ answer_lines (Impossible certificate) ++ rest → Again (read_answer end lines) (Impossible certificate) rest
unfolding read_answer answer_at read_impossible
impossible_again spelled end lines certificate rest is words =
    let head = codes "impossible" ∷ decimal (length certificate.steps) ∷ [] in
    let list = flat_map step_lines certificate.steps in
    let first : Next lines head (list ++ rest) = next_again lines head (list ++ rest) words in
    let other : begins_with (codes "found") first.line.words ≡ false = begins_other (codes "found") (codes "impossible") first.line (decimal (length certificate.steps) ∷ []) first.words refl in
    let begins : begins_with (codes "impossible") first.line.words ≡ true = begins_again (codes "impossible") first.line (decimal (length certificate.steps) ∷ []) first.words in
    let count : told_by (codes "impossible") one_number first.line ≡ Ok (length certificate.steps) = one_again spelled (codes "impossible") first.line (length certificate.steps) is.0 first.words in
    let steps : Again (read_steps end (length certificate.steps) first.left) certificate.steps rest = steps_again spelled end first.left certificate.steps rest is.1 first.behind in
    record {
      left = steps.left;
      is = ap (read_answer end) first.is ∙ rw (other, begins, count, steps.is) refl;
      words = steps.words;
    }

undecided_test : (worker from to : ℕ) → AnswerIs (Undecided worker from to) → is_undecided_with worker from to ≡ true
undecided_test worker from to is =
    let a = is.0 in
    let b = is.1 in
    let c = is.2 in
    let d = is.3 in
    grind (arith, nat_tests)

undecided_again : OneSpelling → (end : ℕ) (lines : List Line) (worker from to : ℕ) (rest : List (List (List ℕ)))
    → AnswerIs (Undecided worker from to) → words_in lines ≡ answer_lines (Undecided worker from to) ++ rest → Again (read_answer end lines) (Undecided worker from to) rest
unfolding read_answer answer_at read_undecided
undecided_again spelled end lines worker from to rest is words =
    let behind = decimal worker ∷ decimal from ∷ decimal to ∷ [] in
    let first : Next lines (codes "undecided" ∷ behind) rest = next_again lines (codes "undecided" ∷ behind) rest words in
    let not_found : begins_with (codes "found") first.line.words ≡ false = begins_other (codes "found") (codes "undecided") first.line behind first.words refl in
    let not_impossible : begins_with (codes "impossible") first.line.words ≡ false = begins_other (codes "impossible") (codes "undecided") first.line behind first.words refl in
    let numbers : told_by (codes "undecided") three_numbers first.line ≡ Ok (worker, (from, to)) =
    three_again spelled (codes "undecided") first.line worker from to (omega (arith, is.1)) (omega (arith, is.2)) (omega (arith, is.3)) first.words in
    let test = undecided_test worker from to is in
    record {
      left = first.left;
      is = ap (read_answer end) first.is ∙ rw (not_found, not_impossible, numbers, test) refl;
      words = first.behind;
    }

-- an answer that is written is read
pub answer_again : OneSpelling → EventIdsReadExactly → (end : ℕ) (lines : List Line) (answer : Answer) (rest : List (List (List ℕ)))
    → AnswerIs answer → words_in lines ≡ answer_lines answer ++ rest → Again (read_answer end lines) answer rest
answer_again spelled exactly end lines (Found schedule) rest is words = found_again spelled exactly end lines schedule rest is words
answer_again spelled exactly end lines (Impossible certificate) rest is words = impossible_again spelled end lines certificate rest is words
answer_again spelled exactly end lines (Undecided worker from to) rest is words = undecided_again spelled end lines worker from to rest is words

few_test : (n : ℕ) → 1 ≤ n → n ≤ 6 → (nat_le 1 n && nat_le n 6) ≡ true
few_test n some few = grind (arith, nat_tests)

instance_again : OneSpelling → EventIdsReadExactly → (due : ℕ) (line : Line) (entry : Entry) → due < 2 ^ 32 → EntryIs entry → line.words ≡ instance_words due entry → read_instance due line ≡ Ok entry.events
unfolding read_instance
instance_again spelled exactly due line entry small is words =
    let ids = map event_id_text entry.events in
    let number : small_number_of (decimal due) ≡ Some due = (small_words spelled).again due small in
    let told : told_by (codes "instance") number_and_words line ≡ Ok (due, ids) = told_again (codes "instance") number_and_words line (due, ids) (decimal due ∷ ids) words (rw number refl) in
    let events : read_words event_id_of line.number ids ≡ Ok entry.events = words_again event_id_of event_id_text IsTypedId (id_words exactly) line.number entry.events is.events in
    let few = few_test (length entry.events) is.some is.few in
    let next : (due == due) ≡ true = eq-eqb due due refl in
    rw (told, events, few, next) refl

entry_again : OneSpelling → EventIdsReadExactly → (end due : ℕ) (lines : List Line) (entry : Entry) (rest : List (List (List ℕ)))
    → due < 2 ^ 32 → EntryIs entry → words_in lines ≡ entry_lines due entry ++ rest → Again (read_entry end due lines) entry rest
unfolding read_entry
entry_again spelled exactly end due lines entry rest small is words =
    let first : Next lines (instance_words due entry) (answer_lines entry.answer ++ rest) = next_again lines (instance_words due entry) (answer_lines entry.answer ++ rest) words in
    let events = instance_again spelled exactly due first.line entry small is first.words in
    let answer = answer_again spelled exactly end first.left entry.answer rest is.answer first.behind in
    record {
      left = answer.left;
      is = ap (read_entry end due) first.is ∙ rw (events, answer.is) refl;
      words = answer.words;
    }

-- entries that are written are read
pub entries_again : OneSpelling → EventIdsReadExactly → (end due : ℕ) (lines : List Line) (entries : List Entry) (rest : List (List (List ℕ)))
    → due + length entries ≤ 2 ^ 32 → AllByRecursion EntryIs entries → words_in lines ≡ entries_lines due entries ++ rest → Again (read_entries end due (length entries) lines) entries rest
entries_again spelled exactly end due lines [] rest small are words = record { left = lines; is = refl; words = words }
entries_again spelled exactly end due lines (entry ∷ entries) rest small are words =
    let behind = entries_lines (due + 1) entries in
    let first = entry_again spelled exactly end due lines entry (behind ++ rest) (omega arith) are.0 (words ∙ append_assoc (entry_lines due entry) behind rest) in
    let others = entries_again spelled exactly end (due + 1) first.left entries rest (omega arith) are.1 first.words in
    record {
      left = others.left;
      is = rw (first.is, others.is) refl;
      words = others.words;
    }
