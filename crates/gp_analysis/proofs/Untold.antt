-- What is recorded with the steps of certificates made into others, and what it is made of: the same with the steps as they are.
use Rattle.std.proofs.Common.{◌≡◌, refl, sym, ap, ℕ, List, [], ◌∷◌, ◌++◌, length, map, Option, Some, None}
use Rattle.gp_certificate.specs.declared.step.Step.{Step}
use Rattle.gp_derivation.specs.declared.record.WorkerRecord.{WorkerRecord}
use Rattle.gp_raise.specs.Raised.{raised}
use Rattle.gp_report.specs.declared.record.AnswerOf.{AnswerOf}
use Rattle.gp_report.specs.declared.record.AnswerOf.TheVariants.{Found, Impossible, Undecided}
use Rattle.gp_report.specs.declared.record.EntryOf.{EntryOf}
use Rattle.gp_report.specs.declared.record.PropertyBodyOf.{PropertyBodyOf}
use Rattle.gp_report.specs.declared.record.PropertyBodyOf.TheVariants.{TooMany, Entries}
use Rattle.gp_report.specs.Entries.{entries_in}
use Rattle.gp_sharing.specs.Compacted.{answer_by, entries_by, entry_by}
use Rattle.gp_window.specs.declared.schedule.EventId.{EventId}
use Rattle.gp_window.specs.WindowForm.{WindowForm}
use Rattle.gp_workers.specs.declared.work.WorkAnswer.{WorkAnswer}
use Rattle.gp_workers.specs.declared.work.WorkAnswer.TheVariants.{Model, Refuted, Spent}
use Rattle.gp_workers.specs.Work.{certificate_by}
use Rattle.gp_analysis.specs.declared.listing.Asked.{Asked}
use Rattle.gp_analysis.specs.Certificates.{certificates_among, certificates_ask, certificates_each, certificates_given, certificates_listed, certificates_worked, left_each, left_listed}
use Rattle.gp_analysis.specs.Question.{QuestionForm}
use Rattle.gp_analysis.specs.Recording.{RecordsAnswer, RecordsAsk, RecordsEach, RecordsListed, left_after}
use Rattle.gp_analysis.proofs.Evidence.{plain, same_answer}

module _ {Subject Shown : Type 0} (question : QuestionForm Subject Shown) (workers : List WorkerRecord) (made : List Step → List Step) (window : WindowForm) (subject : Subject) where
  abbrev clauses : ℕ
  clauses = length (question.problem window).clauses

  abbrev gained : ℕ
  gained = length (question.shared window)

  -- an answer with the steps of its certificate as they are, and that certificate
  answer_untold : (ids : List EventId) (answer : WorkAnswer) (own : AnswerOf Shown) → RecordsAnswer question workers made window subject ids answer own
      → (told : AnswerOf Shown) × RecordsAnswer question workers plain window subject ids answer told × (own ≡ answer_by made told) × (certificates_given told ≡ certificates_worked clauses gained workers answer)
  answer_untold ids (Model valuation) (Found shown) is = (Found shown, is, refl, refl)
  answer_untold ids (Model valuation) (Impossible own) is = absurd is
  answer_untold ids (Model valuation) (Undecided by begins ends) is = absurd is
  answer_untold ids (Refuted worker last) (Found shown) is = absurd is
  answer_untold ids (Refuted worker last) (Impossible own) is = (
    Impossible (raised clauses gained (certificate_by clauses workers worker last)),
    refl,
    ap (λ certificate. Impossible certificate) is,
    refl,
  )
  answer_untold ids (Refuted worker last) (Undecided by begins ends) is = absurd is
  answer_untold ids (Spent worker from to) (Found shown) is = absurd is
  answer_untold ids (Spent worker from to) (Impossible own) is = absurd is
  answer_untold ids (Spent worker from to) (Undecided by begins ends) is = (Undecided by begins ends, is, refl, refl)

  ask_untold : (ids : List EventId) (given : Option (AnswerOf Shown)) (answers : List WorkAnswer) (own : AnswerOf Shown) → RecordsAsk question workers made window subject ids given answers own
      → (told : AnswerOf Shown) × RecordsAsk question workers plain window subject ids given answers told × (own ≡ answer_by made told) × (certificates_given told ≡ certificates_ask clauses gained workers given answers)
  ask_untold ids (Some given) answers own is = (given, sym (same_answer given), is, refl)
  ask_untold ids None [] own is = absurd is
  ask_untold ids None (answer ∷ answers) own is = answer_untold ids answer own is

  each_untold : (asked : List (Asked Shown)) (answers : List WorkAnswer) (entries : List (EntryOf Shown)) (left : List WorkAnswer) → RecordsEach question workers made window subject asked answers entries left
      → (told : List (EntryOf Shown)) × RecordsEach question workers plain window subject asked answers told left × (entries ≡ map (entry_by made) told)
      × (certificates_among told ≡ certificates_each clauses gained workers asked answers) × (left ≡ left_each asked answers)
  each_untold [] answers [] left is = ([], is, refl, refl, sym is)
  each_untold [] answers (entry ∷ entries) left is = absurd is
  each_untold (asked ∷ more) answers [] left is = absurd is
  each_untold (asked ∷ more) answers (entry ∷ entries) left is =
      let one = ask_untold asked.ask.events asked.given answers entry.answer is.1 in
      let rest = each_untold more (left_after asked.given answers) entries left is.2 in (
        record { events = entry.events; answer = one.0 } ∷ rest.0,
        (is.0, one.1, rest.1),
        λ i. record { events = entry.events; answer = one.2 i } ∷ rest.2 i,
        λ i. one.3 i ++ rest.3 i,
        rest.4,
      )

  -- what is recorded of a subject, with the steps as they are: its certificates, and the answers that are left
  pub listed_untold : (listed : Option (List (Asked Shown))) (answers : List WorkAnswer) (own : PropertyBodyOf Shown) (left : List WorkAnswer) → RecordsListed question workers made window subject listed answers own left
      → (told : PropertyBodyOf Shown) × RecordsListed question workers plain window subject listed answers told left × (own ≡ entries_by made told)
      × (certificates_among (entries_in told) ≡ certificates_listed clauses gained workers listed answers) × (left ≡ left_listed listed answers)
  listed_untold None answers TooMany left is = (TooMany, is, refl, refl, sym is)
  listed_untold None answers (Entries entries) left is = absurd is
  listed_untold (Some asked) answers TooMany left is = absurd is
  listed_untold (Some asked) answers (Entries entries) left is =
      let each = each_untold asked answers entries left is in
      (Entries each.0, each.1, ap (λ own. Entries own) each.2, each.3, each.4)
