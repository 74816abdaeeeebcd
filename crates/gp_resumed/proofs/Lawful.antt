-- The question which instances are possible, where an old report may have answered some, is lawful.
use Rattle.std.proofs.Common.{◌≡◌, ◌∙◌, refl, sym, ap, ℕ, suc, ◌+◌, ◌≤◌, List, [], ◌∷◌, None, Some, Result, Ok, Err, length, All, arith}
use Rattle.std.proofs.lemmas.List.Elements.{recursion_from_All}
use Rattle.std.proofs.lemmas.List.FromFn.{length-enumerate_from}
use Rattle.std.specs.List.{AllByRecursion, enumerate_from, slice_get}
use Rattle.gp_base.specs.ListLaws.{recursion_at, recursion_from_each}
use Rattle.gp_certificate.specs.Shared.{RefutedOverMeans}
use Rattle.gp_constraint.specs.Base.{base_of}
use Rattle.gp_constraint.specs.EncodedLaws.{few_clauses, is_valid, query_valid}
use Rattle.gp_constraint.specs.Laws.{ProblemsAreValid}
use Rattle.gp_constraint.specs.Query.{query_of}
use Rattle.gp_instance.specs.declared.instance.Instance.{Instance}
use Rattle.gp_instance.specs.declared.instance.InstancesFault.{InstancesFault}
use Rattle.gp_instance.specs.declared.instance.InstancesFault.TheVariants.{Memory, TooMany}
use Rattle.gp_instance.specs.Instances.{due_instances}
use Rattle.gp_instance.specs.ListedLaws.{AreListed, IsListed, ListsEach, are_listed}
use Rattle.gp_property.specs.Laws.{AtomsKept}
use Rattle.gp_property.specs.Property.{IsProperty}
use Rattle.gp_property.specs.PropertyForm.{PropertyForm}
use Rattle.gp_report.specs.Records.{Answer}
use Rattle.gp_report.specs.declared.record.AnswerOf.TheVariants.{Found, Impossible, Undecided}
use Rattle.gp_report.specs.ReportForm.{ReportForm}
use Rattle.gp_window.specs.declared.schedule.EventId.{EventId}
use Rattle.gp_window.specs.WindowForm.{IsWindow, WindowForm}
use Rattle.gp_witness.specs.Complete.{SchedulesAreComplete}
use Rattle.gp_analysis.specs.Question.{Holds, IsLawful, ListsAsks}
use Rattle.gp_patterns.specs.EncodableLaws.{is_encodable, large_left_out}
use Rattle.gp_resume.specs.Kept.{KeptHolds, kept_answer, kept_shared}
use Rattle.gp_resumed.specs.Question.{IsAskOf, resumed}

-- what is listed of a property with its number are asks of it
lists_each : AtomsKept → (all : List PropertyForm) (window : WindowForm) (number : ℕ) (property : PropertyForm) → slice_get all number ≡ Some property → IsProperty property
    → ListsEach (IsAskOf all window (number, property)) (due_instances window property number)
lists_each kept all window number property one_of is = at (due_instances window property number) refl (are_listed kept window property number is)
  where
    at : (due : Result (List Instance) InstancesFault) → due_instances window property number ≡ due → AreListed window property due → ListsEach (IsAskOf all window (number, property)) due
    at (Ok listed) e all_listed = (
      all_listed.0,
      recursion_from_each (λ (instance : Instance). IsAskOf all window (number, property) instance.events) listed
          (λ instance within. record {
            one_of = one_of;
            listed = recursion_at (λ (i : Instance). IsListed window property i.events) listed instance all_listed.1 within;
            among = (listed, instance, e, within, refl);
          }),
    )
    at (Err TooMany) e all_listed = tt
    at (Err Memory) e all_listed = all_listed

-- so is what is listed of each from a place on
lists_all : AtomsKept → (all : List PropertyForm) (old : ReportForm) (number : ℕ) (properties : List PropertyForm) → ((k : ℕ) (property : PropertyForm) → slice_get properties k ≡ Some property → slice_get all (number + k) ≡ Some property)
    → AllByRecursion IsProperty properties → AllByRecursion (ListsAsks (resumed all old) (IsAskOf all)) (enumerate_from number properties)
lists_all kept all old number [] places each = tt
lists_all kept all old number (property ∷ properties) places each = (
  λ window _. let here : number + 0 ≡ number = omega arith in lists_each kept all window number property (ap (slice_get all) (sym here) ∙ places 0 property refl) each.0,
  lists_all kept all old (number + 1) properties (λ k other got. let next : number + 1 + k ≡ number + suc k = omega arith in ap (slice_get all) next ∙ places (suc k) other got) each.1,
)

-- an answer that is kept holds
kept_is_true : (properties : List PropertyForm) (old : ReportForm) → KeptHolds → SchedulesAreComplete → RefutedOverMeans → ProblemsAreValid → (window : WindowForm) (subject : ℕ × PropertyForm) (ids : List EventId)
    → IsAskOf properties window subject ids → IsWindow window → (resumed properties old).left_out window ≡ None → (answer : Answer) → kept_answer old window subject.1 ids ≡ Some answer
    → Holds (resumed properties old) window subject ids (kept_shared old window) answer
kept_is_true properties old holds complete means valid window subject ids ask is_window fits (Found schedule) is =
    let shown = holds.found old window subject.1 ids schedule is in record { feasible = shown.0; matches = shown.1 }
kept_is_true properties old holds complete means valid window subject ids ask is_window fits (Impossible certificate) is =
    let refutes = holds.impossible old window subject.1 ids certificate is in
    let encodable = is_encodable window fits in
    record {
      impossible = λ shown shows.
          complete.impossible window subject.1 ids is_window
          (means.no_valuation (base_of window) (kept_shared old window) (query_of window subject.1 ids) certificate (is_valid valid window encodable) (query_valid valid window encodable subject.1 ids ask.listed.few ask.listed.instance) refutes)
          (shown.events, shows.feasible, shows.matches);
      refutes = refutes;
    }
kept_is_true properties old holds complete means valid window subject ids ask is_window fits (Undecided worker from to) is = holds.decided old window subject.1 ids worker from to is

pub is_lawful : (properties : List PropertyForm) (old : ReportForm) → length properties ≤ 64 → All IsProperty properties → ProblemsAreValid → AtomsKept → SchedulesAreComplete → RefutedOverMeans → KeptHolds
    → IsLawful (resumed properties old) (IsAskOf properties)
is_lawful properties old few formed valid kept complete means holds = record {
  few = omega (arith, few, length-enumerate_from 0 properties);
  listed = lists_all kept properties old 0 properties (λ k property got. let same : 0 + k ≡ k = omega arith in ap (slice_get properties) same ∙ got) (recursion_from_All IsProperty properties formed);
  ask = λ window subject ids ask. record {
    some = ask.listed.some;
    few = ask.listed.few;
    query = λ fits. query_valid valid window (is_encodable window fits) subject.1 ids ask.listed.few ask.listed.instance;
    complete = λ is_window fits none shown shows. complete.impossible window subject.1 ids is_window none (shown.events, shows.feasible, shows.matches);
    given = λ is_window fits answer is. kept_is_true properties old holds complete means valid window subject ids ask is_window fits answer is;
  };
  problem = λ window fits.
      let is = is_encodable window fits in
      record { valid = is_valid valid window is; solvable = valid.solvable window; few_clauses = few_clauses window is; shares = holds.shared old window };
  large = large_left_out;
}
