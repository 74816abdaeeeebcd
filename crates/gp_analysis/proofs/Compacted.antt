-- The record of a window as its certificates are told.
use Rattle.std.proofs.Common.{◌≡◌, ◌∙◌, refl, sym, ap, subst, ℕ, ◌+◌, ◌^◌, ◌<◌, Bool, true, false, nat_lt, List, [], ◌∷◌, length, map, Option, Some, None, add-zero, add_assoc, arith}
use Rattle.std.specs.Prelude.{if◌then◌else◌}
use Rattle.std.proofs.lemmas.Bool.Decides.{nat_tests}
use Rattle.std.proofs.lemmas.List.Sums.{fold-append, sum_by-cons}
use Rattle.gp_certificate.specs.declared.step.Step.{Step}
use Rattle.gp_derivation.specs.declared.record.WorkerRecord.{WorkerRecord}
use Rattle.gp_report.specs.declared.record.AnswerOf.{AnswerOf}
use Rattle.gp_report.specs.declared.record.AnswerOf.TheVariants.{Found, Impossible, Undecided}
use Rattle.gp_report.specs.declared.record.EntryOf.{EntryOf}
use Rattle.gp_report.specs.declared.record.PropertyBodyOf.{PropertyBodyOf}
use Rattle.gp_report.specs.declared.record.PropertyBodyOf.TheVariants.{TooMany, Entries}
use Rattle.gp_report.specs.declared.record.PropertyRecordOf.{PropertyRecordOf}
use Rattle.gp_report.specs.declared.record.WindowBodyOf.TheVariants.{Answers}
use Rattle.gp_report.specs.declared.record.WindowRecordOf.{WindowRecordOf}
use Rattle.gp_report.specs.Entries.{entries_among}
use Rattle.gp_report.specs.Report.{IsWindowRecord}
use Rattle.gp_sharing.specs.declared.sizes.Sizes.{Sizes}
use Rattle.gp_sharing.specs.Compacted.{compacted_by, entries_by, entry_by, own_steps, property_by, sizes_in, steps_in, with_entries, over_list}
use Rattle.gp_sharing.specs.CompactedLaws.{by_told}
use Rattle.gp_sharing.specs.GrownLaws.{own_count}
use Rattle.gp_sharing.specs.Moving.{first_own, with_certificate}
use Rattle.gp_window.specs.WindowForm.{WindowForm}
use Rattle.gp_analysis.specs.declared.certifying.Moved.{Moved}
use Rattle.gp_analysis.specs.declared.question.LeftOut.{LeftOut}
use Rattle.gp_analysis.specs.declared.sharing.Sharing.{Sharing}
use Rattle.gp_analysis.specs.declared.task.Telling.{Telling}
use Rattle.gp_analysis.specs.declared.task.Telling.TheVariants.{Whole, Compact}
use Rattle.gp_analysis.specs.Answered.{AnswersSubjects, known_of}
use Rattle.gp_analysis.specs.Certificates.{begun, certificates_among, certificates_given, found, moved_over, shared_by, steps_by, with_all, with_counted}
use Rattle.gp_analysis.specs.Question.{QuestionForm}
use Rattle.gp_analysis.specs.Recorded.{RecordsWindow, compacted_where}
use Rattle.gp_analysis.specs.Telling.{RecordsAs, TellsAll}
use Rattle.gp_analysis.proofs.Evidence.{plain, same_answer}
use Rattle.gp_analysis.proofs.FirstWalk.{is_less}

-- what is told with the steps as they are stays
same_entries : {Shown : Type 0} (entries : List (EntryOf Shown)) → map (entry_by plain) entries ≡ entries
same_entries [] = refl
same_entries (entry ∷ entries) = λ i. record { events = entry.events; answer = same_answer entry.answer i } ∷ same_entries entries i

same_body : {Shown : Type 0} (body : PropertyBodyOf Shown) → entries_by plain body ≡ body
same_body TooMany = refl
same_body (Entries entries) = ap (λ own. Entries own) (same_entries entries)

same_properties : {Shown : Type 0} (told : List (PropertyRecordOf Shown)) → map (property_by plain) told ≡ told
same_properties [] = refl
same_properties (property ∷ told) = λ i. record { name = property.name; body = same_body property.body i } ∷ same_properties told i

-- the steps of an answer are counted
answer_counted : {Shown : Type 0} (sharing : Sharing) (answer : AnswerOf Shown) → (with_all sharing (certificates_given answer)).count ≡ sharing.count + length (own_steps answer)
answer_counted sharing (Found shown) = sym (add-zero sharing.count)
answer_counted sharing (Impossible certificate) = refl
answer_counted sharing (Undecided worker from to) = sym (add-zero sharing.count)

-- and shared where they are few
answer_shared : {Shown : Type 0} (sharing : Sharing) (answer : AnswerOf Shown) → sharing.count + length (own_steps answer) < 2 ^ 31
    → with_all sharing (certificates_given answer) ≡ record { sizes = sharing.sizes; list = with_certificate sharing.sizes sharing.list (own_steps answer); count = sharing.count + length (own_steps answer) }
answer_shared sharing (Found shown) few = λ i. record { sizes = sharing.sizes; list = sharing.list; count = sym (add-zero sharing.count) i }
answer_shared sharing (Impossible certificate) few =
    let under : nat_lt (sharing.count + length certificate.steps) (2 ^ 31) ≡ true = grind (arith, nat_tests) in
    λ i. record {
      sizes = sharing.sizes;
      list = if under i then with_certificate sharing.sizes sharing.list certificate.steps else sharing.list;
      count = sharing.count + length certificate.steps;
    }
answer_shared sharing (Undecided worker from to) few = λ i. record { sizes = sharing.sizes; list = sharing.list; count = sym (add-zero sharing.count) i }

-- so are the steps of entries counted
entries_counted : {Shown : Type 0} (sharing : Sharing) (entries : List (EntryOf Shown)) → (with_all sharing (certificates_among entries)).count ≡ sharing.count + steps_in entries
entries_counted sharing [] = sym (add-zero sharing.count)
entries_counted sharing (entry ∷ entries) =
    let one = with_all sharing (certificates_given entry.answer) in
    let size = sum_by-cons own_count entry entries in
    ap (λ (s : Sharing). s.count) (fold-append with_counted sharing (certificates_given entry.answer) (certificates_among entries))
    ∙ entries_counted one entries
    ∙ ap (λ (n : ℕ). n + steps_in entries) (answer_counted sharing entry.answer)
    ∙ add_assoc sharing.count (length (own_steps entry.answer)) (steps_in entries)
    ∙ ap (λ (n : ℕ). sharing.count + n) (sym size)

-- and shared where they are few
entries_shared : {Shown : Type 0} (sharing : Sharing) (entries : List (EntryOf Shown)) → sharing.count + steps_in entries < 2 ^ 31
    → with_all sharing (certificates_among entries) ≡ record { sizes = sharing.sizes; list = with_entries sharing.sizes sharing.list entries; count = sharing.count + steps_in entries }
entries_shared sharing [] few = λ i. record { sizes = sharing.sizes; list = sharing.list; count = sym (add-zero sharing.count) i }
entries_shared sharing (entry ∷ entries) few =
    let size = sum_by-cons own_count entry entries in
    let steps = own_steps entry.answer in
    let next : Sharing = record { sizes = sharing.sizes; list = with_certificate sharing.sizes sharing.list steps; count = sharing.count + length steps } in
    let one = answer_shared sharing entry.answer (omega (arith, few, size)) in
    let total : sharing.count + length steps + steps_in entries ≡ sharing.count + steps_in (entry ∷ entries) = omega (arith, size) in
    fold-append with_counted sharing (certificates_given entry.answer) (certificates_among entries)
    ∙ ap (λ (s : Sharing). with_all s (certificates_among entries)) one
    ∙ entries_shared next entries (omega (arith, few, size))
    ∙ (λ i. record { sizes = sharing.sizes; list = with_entries sharing.sizes (with_certificate sharing.sizes sharing.list steps) entries; count = total i })

-- what moves of the certificates of entries: nothing where their steps are not few
moved_is : {Shown : Type 0} (sizes : Sizes) (shared : List Step) (entries : List (EntryOf Shown)) (few : Bool) → nat_lt (first_own sizes + steps_in entries) (2 ^ 31) ≡ few
    → moved_over sizes shared (certificates_among entries) ≡ (if few then Some (record { sizes = sizes; list = with_entries sizes shared entries }) else None)
moved_is sizes shared entries true is =
    ap found (entries_shared (begun sizes shared) entries (is_less (first_own sizes + steps_in entries) (2 ^ 31) is))
    ∙ (λ i. if is i then Some (record { sizes = sizes; list = with_entries sizes shared entries }) else None)
moved_is sizes shared entries false is =
    let all = with_all (begun sizes shared) (certificates_among entries) in
    let many : nat_lt all.count (2 ^ 31) ≡ false = ap (λ (n : ℕ). nat_lt n (2 ^ 31)) (entries_counted (begun sizes shared) entries) ∙ is in
    λ i. if many i then Some (record { sizes = all.sizes; list = all.list }) else None

module _ {Subject Shown : Type 0} (question : QuestionForm Subject Shown) (window : WindowForm) (count budget number : ℕ) (workers : List WorkerRecord) where
  -- the record of a window with these shared steps and records of subjects
  abbrev pub record_with : List Step → List (PropertyRecordOf Shown) → WindowRecordOf Shown
  record_with shared body = record { number = number; shared = shared; body = Answers body; records = workers }

  -- what is told as some steps moved, or none, is the compact form
  compact_is : (shared : List Step) (own : List (PropertyRecordOf Shown)) (told : List (PropertyRecordOf Shown)) (moved : Option Moved) (few : Bool)
      → nat_lt (first_own (sizes_in (question.problem window) (question.shared window)) + steps_in (entries_among told)) (2 ^ 31) ≡ few
      → moved ≡ (if few then Some (record { sizes = sizes_in (question.problem window) (question.shared window); list = with_entries (sizes_in (question.problem window) (question.shared window)) (question.shared window) (entries_among told) }) else None)
      → shared ≡ shared_by moved (question.shared window) → own ≡ map (property_by (steps_by moved)) told
      → record_with shared own ≡ compacted_by (sizes_in (question.problem window) (question.shared window)) (record_with (question.shared window) told)
  compact_is shared own told moved true is moves shares made =
      let sizes = sizes_in (question.problem window) (question.shared window) in
      let plainly = record_with (question.shared window) told in
      let list = with_entries sizes (question.shared window) (entries_among told) in
      let some : Moved = record { sizes = sizes; list = list } in
      (λ i. record_with (shares i) (made i))
      ∙ ap (λ (m : Option Moved). record_with (shared_by m (question.shared window)) (map (property_by (steps_by m)) told)) moves
      ∙ (λ i. if sym is i then over_list sizes list plainly else plainly)
  compact_is shared own told moved false is moves shares made =
      let sizes = sizes_in (question.problem window) (question.shared window) in
      let plainly = record_with (question.shared window) told in
      (λ i. record_with (shares i) (made i))
      ∙ ap (λ (m : Option Moved). record_with (shared_by m (question.shared window)) (map (property_by (steps_by m)) told)) moves
      ∙ ap (record_with (question.shared window)) (same_properties told)
      ∙ (λ i. if sym is i then over_list sizes (with_entries sizes (question.shared window) (entries_among told)) plainly else plainly)

  -- the record of a window that is not left out, as certificates are told
  pub recorded_as : (telling : Telling) (shared : List Step) (own : List (PropertyRecordOf Shown)) → question.left_out window ≡ None
      → ((told : List (PropertyRecordOf Shown)) → AnswersSubjects question window (known_of question window budget workers) 0 0 question.subjects told → RecordsWindow question count budget window (record_with (question.shared window) told))
      → TellsAll question telling window (known_of question window budget workers) shared own
      → RecordsAs question telling count budget window (record_with shared own)
  recorded_as Whole shared own fits records tells =
      let told = tells.tells.told in
      let same : record_with shared own ≡ record_with (question.shared window) told =
      (λ i. record_with (tells.shares i) (tells.tells.made i))
      ∙ ap (λ (m : Option Moved). record_with (shared_by m (question.shared window)) (map (property_by (steps_by m)) told)) tells.moves
      ∙ ap (record_with (question.shared window)) (same_properties told) in
      subst (RecordsWindow question count budget window) (sym same) (records told tells.tells.answers)
  recorded_as Compact shared own fits records tells =
      let sizes = sizes_in (question.problem window) (question.shared window) in
      let told = tells.tells.told in
      let plainly = record_with (question.shared window) told in
      let answers = records told tells.tells.answers in
      let moves = tells.moves ∙ ap (moved_over sizes (question.shared window)) (sym tells.tells.certificates)
      ∙ moved_is sizes (question.shared window) (entries_among told) (nat_lt (first_own sizes + steps_in (entries_among told)) (2 ^ 31)) refl in
      let made = compact_is shared own told tells.moved (nat_lt (first_own sizes + steps_in (entries_among told)) (2 ^ 31)) refl moves tells.shares tells.tells.made in
      record {
        told = plainly;
        records = answers;
        made = made ∙ sym (ap (λ (left : Option LeftOut). compacted_where left sizes plainly) fits);
        fits = subst (IsWindowRecord 2) (sym made) (by_told 2 sizes plainly answers.fits);
      }

-- the record of a window that is left out, as certificates are told
pub left_out_as : (telling : Telling) {Subject Shown : Type 0} (question : QuestionForm Subject Shown) (window : WindowForm) (count budget : ℕ) (why : LeftOut) (own : WindowRecordOf Shown) → question.left_out window ≡ Some why
    → RecordsWindow question count budget window own → RecordsAs question telling count budget window own
left_out_as Whole question window count budget why own is records = records
left_out_as Compact question window count budget why own is records = record {
  told = own;
  records = records;
  made = sym (ap (λ (left : Option LeftOut). compacted_where left (sizes_in (question.problem window) own.shared) own) is);
  fits = records.fits;
}
