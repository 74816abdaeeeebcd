-- The question which instances are possible is lawful.
use Rattle.std.proofs.Common.{◌≤◌, List, [], ◌∷◌, length, All}
use Rattle.std.proofs.lemmas.List.Elements.{recursion_from_All}
use Rattle.std.proofs.lemmas.Option.{none-some}
use Rattle.std.specs.List.{AllByRecursion}
use Rattle.gp_constraint.specs.EncodedLaws.{few_clauses, is_valid, query_valid}
use Rattle.gp_constraint.specs.Laws.{ProblemsAreValid}
use Rattle.gp_instance.specs.ListedLaws.{IsListed, are_listed}
use Rattle.gp_property.specs.Laws.{AtomsKept}
use Rattle.gp_property.specs.Property.{IsProperty}
use Rattle.gp_property.specs.PropertyForm.{PropertyForm}
use Rattle.gp_witness.specs.Complete.{SchedulesAreComplete}
use Rattle.gp_analysis.specs.Question.{IsLawful, ListsAsks}
use Rattle.gp_patterns.specs.EncodableLaws.{is_encodable, large_left_out}
use Rattle.gp_patterns.specs.Question.{patterns}

each_listed : AtomsKept → (all properties : List PropertyForm) → AllByRecursion IsProperty properties → AllByRecursion (ListsAsks (patterns all) IsListed) properties
each_listed kept all [] each = tt
each_listed kept all (property ∷ properties) each =
    (λ window number. are_listed kept window property number each.0, each_listed kept all properties each.1)

pub is_lawful : (properties : List PropertyForm) → length properties ≤ 64 → All IsProperty properties → ProblemsAreValid → AtomsKept → SchedulesAreComplete → IsLawful (patterns properties) IsListed
is_lawful properties few formed valid kept complete = record {
  few = few;
  listed = each_listed kept properties properties (recursion_from_All IsProperty properties formed);
  ask = λ window property ids listed. record {
    some = listed.some;
    few = listed.few;
    query = λ fits. query_valid valid window (is_encodable window fits) property ids listed.few listed.instance;
    complete = λ is_window fits none shown shows. complete.impossible window property ids is_window none (shown.events, shows.feasible, shows.matches);
    given = λ is_window fits answer is. absurd (none-some answer is);
  };
  problem = λ window fits.
      let is = is_encodable window fits in
      record { valid = is_valid valid window is; solvable = valid.solvable window; few_clauses = few_clauses window is; shares = tt };
  large = large_left_out;
}
