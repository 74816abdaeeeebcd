-- The entries of a report that is accepted are those of its instances.
use Rattle.std.proofs.Common.{◌≡◌, refl, ap, ◌∙◌, ℕ, ◌+◌, List, [], ◌∷◌, ◌++◌, map}
use Rattle.std.specs.Prelude.{Result, Ok, Err}
use Rattle.std.specs.List.{AllZip, enumerate_from}
use Rattle.std.proofs.lemmas.List.{map-append}
use Rattle.gp_certificate.specs.declared.step.Step.{Step}
use Rattle.gp_checker.specs.Accepted.{AcceptsBody, AcceptsProperty, AcceptsWindow}
use Rattle.gp_constraint.specs.Encoded.{base_due}
use Rattle.gp_constraint.specs.declared.fault.BaseFault.{BaseFault}
use Rattle.gp_constraint.specs.declared.fault.BaseFault.TheVariants.{Memory, TooLarge}
use Rattle.gp_property.specs.PropertyForm.{PropertyForm}
use Rattle.gp_report.specs.Entries.{entries_among, entries_in, entries_of, properties_in}
use Rattle.gp_report.specs.Records.{Entry, PropertyRecord, WindowBody, WindowRecord}
use Rattle.gp_report.specs.declared.record.WindowBodyOf.TheVariants as kind
use Rattle.gp_view.specs.Answered.{AnsweredForm}
use Rattle.gp_window.specs.WindowForm.{WindowForm}
use Rattle.gp_show.specs.Answers.{answers_among, answers_from, answers_in, answers_of, answers_over}
use Rattle.gp_show.specs.Laws.{AnswersAreEntries}

-- the entries of instances
abbrev entries : List AnsweredForm → List Entry
entries answers = map (λ (answered : AnsweredForm). answered.entry) answers

from_entries : (window : WindowForm) (shared : List Step) (property : PropertyForm) (number : ℕ) (told : List Entry) → entries (answers_from window shared property number told) ≡ told
from_entries window shared property number [] = refl
from_entries window shared property number (entry ∷ told) = ap (λ rest. entry ∷ rest) (from_entries window shared property (number + 1) told)

-- so many properties have a record each
among_entries : (own window : WindowForm) (budget : ℕ) (shared : List Step) (number : ℕ) (properties : List PropertyForm) (records : List PropertyRecord)
    → AllZip (AcceptsProperty own budget shared) (enumerate_from number properties) records → entries (answers_among window shared properties records) ≡ entries_among records
among_entries own window budget shared number [] [] accepted = refl
among_entries own window budget shared number [] (one ∷ records) accepted = absurd accepted
among_entries own window budget shared number (property ∷ properties) [] accepted = absurd accepted
among_entries own window budget shared number (property ∷ properties) (told ∷ records) accepted =
    map-append (λ (answered : AnsweredForm). answered.entry) (answers_from window shared property 0 (entries_in told.body)) (answers_among window shared properties records)
    ∙ ap (λ first. first ++ entries (answers_among window shared properties records)) (from_entries window shared property 0 (entries_in told.body))
    ∙ ap (λ rest. entries_in told.body ++ rest) (among_entries own window budget shared (number + 1) properties records accepted.1)

-- a window whose record is accepted
over_entries : (own : WindowForm) (budget : ℕ) (properties : List PropertyForm) (told : WindowRecord) (base : Result WindowForm BaseFault) (body : WindowBody) → told.body ≡ body
    → AcceptsBody own budget properties told.shared base body → entries (answers_over properties told base) ≡ entries_among (properties_in body)
over_entries own budget properties told (Err (TooLarge events clauses)) (kind.TooLarge more_events more_clauses) is accepted = refl
over_entries own budget properties told (Err (TooLarge events clauses)) (kind.Answers records) is accepted = absurd accepted
over_entries own budget properties told (Err Memory) body is accepted = absurd accepted
over_entries own budget properties told (Ok window) (kind.TooLarge events clauses) is accepted = absurd accepted
over_entries own budget properties told (Ok window) (kind.Answers records) is accepted =
    ap (λ (body : WindowBody). entries (answers_among window told.shared properties (properties_in body))) is
    ∙ among_entries own window budget told.shared 0 properties records accepted.1

windows_entries : (budget : ℕ) (properties : List PropertyForm) (windows : List WindowForm) (records : List WindowRecord)
    → AllZip (AcceptsWindow properties budget) windows records → entries (answers_of properties windows records) ≡ entries_of records
windows_entries budget properties [] [] accepted = refl
windows_entries budget properties [] (one ∷ records) accepted = absurd accepted
windows_entries budget properties (window ∷ windows) [] accepted = absurd accepted
windows_entries budget properties (window ∷ windows) (told ∷ records) accepted =
    map-append (λ (answered : AnsweredForm). answered.entry) (answers_in properties window told) (answers_of properties windows records)
    ∙ ap (λ first. first ++ entries (answers_of properties windows records)) (over_entries window budget properties told (base_due window) told.body refl accepted.0)
    ∙ ap (λ rest. entries_among (properties_in told.body) ++ rest) (windows_entries budget properties windows records accepted.1)

pub entries_are_told : AnswersAreEntries
entries_are_told recording properties report accepted = windows_entries report.budget properties _ report.windows accepted
