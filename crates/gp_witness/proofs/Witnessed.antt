-- The executed events of an answer in the order of their places: feasible, and a match of the instance.
use Rattle.std.proofs.Common.{ℕ, ◌≡◌, ◌<◌, ap, sym, ◌∙◌, subst, inl, inr, List, [], ◌∷◌, ◌++◌, true, arith, length}
use Rattle.std.specs.Prelude.{◌<ℤ◌}
use Rattle.std.specs.List.{AllByRecursion}
use Rattle.std.proofs.lemmas.Int.{ints}
use Rattle.gp_clause.specs.declared.problem.Query.{Query}
use Rattle.gp_clause.specs.declared.valuation.Valuation.{Valuation}
use Rattle.gp_clause.specs.Valuation.{Meets, place_of, truth_of}
use Rattle.gp_instance.specs.Instance.{is_instance}
use Rattle.gp_instance.specs.Matches.{matches_events}
use Rattle.gp_property.specs.Property.{IsProperty}
use Rattle.gp_property.specs.PropertyForm.{PropertyForm}
use Rattle.gp_window.specs.Formed.{WindowsAreFormed}
use Rattle.gp_window.specs.declared.schedule.EventId.{EventId}
use Rattle.gp_window.specs.WindowForm.{IsWindow, WindowForm}
use Rattle.gp_replay.specs.Feasible.{IsFeasible}
use Rattle.gp_replay.specs.Holder.{HoldersAcquired}
use Rattle.gp_replay.specs.RunLaws.{runs_prefix}
use Rattle.gp_replay.specs.Sharing.{ReadersAcquired}
use Rattle.gp_replay.specs.Start.{BeginsAsWindow}
use Rattle.gp_replay.specs.Step.{start_state}
use Rattle.gp_replay.specs.Value.{ValuesAreLastWrites}
use Rattle.gp_constraint.specs.declared.symbol.Symbol.{Symbol}
use Rattle.gp_constraint.specs.declared.symbol.Symbol.TheVariants.{Executed}
use Rattle.gp_constraint.specs.Base.{base_of, names_in}
use Rattle.gp_base.specs.ListLaws.{Pairwise, pairwise_from_pairs}
use Rattle.gp_constraint.specs.InstanceLaws.{instance_means}
use Rattle.gp_constraint.specs.Laws.{AnswersMean, BaseMeans}
use Rattle.gp_constraint.specs.PointLaws.{event_below, IsEventOf}
use Rattle.gp_constraint.specs.Points.{number_in, points_of}
use Rattle.gp_constraint.specs.Query.{query_names, query_of}
use Rattle.gp_constraint.specs.SymbolTruth.{read_by}
use Rattle.gp_witness.specs.AnswerTruth.{truth_in}
use Rattle.gp_witness.specs.Meaning.{Truth}
use Rattle.gp_witness.specs.Witness.{ComesBefore, IsByPlace, up_to_last}
use Rattle.gp_witness.proofs.Clauses.{does_from, does_parts}
use Rattle.gp_witness.proofs.Cut.{front_matches, up_back, up_has}
use Rattle.gp_witness.proofs.Feasible.{Ground, schedule_is_feasible}
use Rattle.gp_witness.proofs.Match.{InstanceStands}
use Rattle.gp_witness.proofs.Queried.{query_stands, query_told}
use Rattle.gp_witness.proofs.Sorted.{IsScheduleOf, IsSorted, MayPrecede, not_itself}
use Rattle.gp_witness.proofs.Told.{clauses_told}

-- the laws of the lower crates
pub record LowerLaws : Type 0 where
  pub formed : WindowsAreFormed
  pub begins : BeginsAsWindow
  pub written : ValuesAreLastWrites
  pub acquired : HoldersAcquired
  pub shared : ReadersAcquired
  pub answers : AnswersMean

-- the truth of an answer by these names
abbrev answer : WindowForm → List Symbol → Valuation → Truth
answer window names valuation = truth_in window (read_by names valuation)

-- by these names point p is executed is variable p
abbrev NamesPoints : WindowForm → List Symbol → Valuation → Type 0
NamesPoints window names valuation =
    (point : ℕ) → point < length (points_of window) → (read_by names valuation).symbols (Executed point) ≡ truth_of valuation point

-- what comes before by place, thread and index may come before
by_order : (window : WindowForm) (names : List Symbol) (valuation : Valuation) (one other : EventId) → ComesBefore window valuation one other
    → MayPrecede (answer window names valuation) one other
by_order window names valuation one other (inl before) = (
  (λ same. not_itself (answer window names valuation) one (subst (λ e. place_of valuation (number_in window one) <ℤ place_of valuation (number_in window e)) (sym same) before)),
  (λ back. absurd (omega (arith, ints, before, back))),
)
by_order window names valuation one other (inr (place, inl thread)) =
    ((λ same. let alike = ap (λ (e : EventId). e.thread) same in absurd (omega (arith, alike, thread))), (λ back. absurd (omega (arith, ints, place, back))))
by_order window names valuation one other (inr (place, inr index)) =
    ((λ same. let alike = ap (λ (e : EventId). e.index) same in let less = index.1 in absurd (omega (arith, alike, less))), (λ back. absurd (omega (arith, ints, place, back))))

all_by_order : (window : WindowForm) (names : List Symbol) (valuation : Valuation) (one : EventId) (ids : List EventId)
    → AllByRecursion (ComesBefore window valuation one) ids → AllByRecursion (MayPrecede (answer window names valuation) one) ids
all_by_order window names valuation one [] all = tt
all_by_order window names valuation one (id ∷ ids) all = (by_order window names valuation one id all.0, all_by_order window names valuation one ids all.1)

sorted_by_place : (window : WindowForm) (names : List Symbol) (valuation : Valuation) (ids : List EventId) → Pairwise (ComesBefore window valuation) ids
    → IsSorted (answer window names valuation) ids
sorted_by_place window names valuation [] sorted = tt
sorted_by_place window names valuation (id ∷ ids) sorted =
    (all_by_order window names valuation id ids sorted.0, sorted_by_place window names valuation ids sorted.1)

-- the executed events by place are the schedule of the answer's truth
schedule_from : (window : WindowForm) (names : List Symbol) (valuation : Valuation) (schedule : List EventId) → NamesPoints window names valuation
    → IsByPlace window valuation schedule → IsScheduleOf (answer window names valuation) schedule
schedule_from window names valuation schedule points by = record {
  sorted = sorted_by_place window names valuation schedule (pairwise_from_pairs (ComesBefore window valuation) schedule by.sorted);
  only = λ id i.
      let e = by.only id i in
      does_from window (read_by names valuation) id e.0 (points (number_in window id) (event_below window id e.0) ∙ e.1);
  all = λ id does.
      let d = does_parts window (read_by names valuation) id does in
      let there : IsEventOf window id = (d.0, d.1) in
      (by.all id (there, sym (points (number_in window id) (event_below window id there)) ∙ d.2));
}

-- all that is known of the answer
ground_from : (window : WindowForm) (names : List Symbol) (valuation : Valuation) → LowerLaws → IsWindow window → BaseMeans window (read_by names valuation)
    → Ground window (answer window names valuation)
ground_from window names valuation laws is base =
    let formed = laws.formed window is in
    record {
      formed = formed;
      values = laws.begins.values window is;
      written = laws.written;
      acquired = laws.acquired;
      shared = laws.shared;
      meets = clauses_told window (read_by names valuation) formed base.edges base.clauses;
      there = λ id does. let d = does_parts window (read_by names valuation) id does in (d.0, d.1);
    }

-- the executed events of an answer are feasible
pub base_witness : LowerLaws → (window : WindowForm) (query : Query) (valuation : Valuation) (schedule : List EventId)
    → IsWindow window → Meets (base_of window) query valuation → IsByPlace window valuation schedule → IsFeasible window schedule
base_witness laws window query valuation schedule is meets by =
    let names : List Symbol = names_in window in
    schedule_is_feasible window (answer window names valuation) schedule (ground_from window names valuation laws is (laws.answers.base window query valuation meets))
    (schedule_from window names valuation schedule (λ point below. laws.answers.points window valuation point below) by)

-- and those of an answer to the query of an instance match it, up to its last event
pub instance_witness : LowerLaws → (window : WindowForm) (property : PropertyForm) (ids : List EventId) (valuation : Valuation) (schedule : List EventId)
    → IsWindow window → IsProperty property → is_instance window property ids ≡ true → Meets (base_of window) (query_of window property ids) valuation
    → IsByPlace window valuation schedule → IsFeasible window (up_to_last ids schedule) × (matches_events property ids (up_to_last ids schedule) ≡ true)
instance_witness laws window property ids valuation schedule is valid instance meets by =
    let names : List Symbol = query_names window property ids in
    let t : Truth = answer window names valuation in
    let ground = ground_from window names valuation laws is (laws.answers.clauses window property ids valuation meets) in
    let told = instance_means window property ids instance in
    let query = query_told window property ids (read_by names valuation) ground.meets.rise told valid.known (laws.answers.query window property ids valuation meets) in
    let stands : InstanceStands t property ids = query_stands window t property ids ground.there told.different query in
    let s : IsScheduleOf t schedule =
    schedule_from window names valuation schedule (λ point below. laws.answers.query_points window property ids valuation point below) by in
    let front : List EventId = up_to_last ids schedule in
    let split = up_back ids schedule in
    let whole : IsScheduleOf t (front ++ split.0) = subst (IsScheduleOf t) split.1 s in
    let feasible : IsFeasible window (front ++ split.0) = schedule_is_feasible window t (front ++ split.0) ground whole in
    let begun = runs_prefix window (start_state window) feasible.0 front split.0 feasible.1 in (
      begun,
      front_matches t front split.0 property ids whole (λ id i. up_has ids schedule id (s.all id (stands.does id i)) i) stands,
    )
