-- An answer to the problem of a window and the next is a schedule that links the two, and a schedule that links them an answer.
use Rattle.std.proofs.Common.{ℕ, ◌<◌, ◌≤◌, ◌+◌, ◌++◌, sym, subst, List, [], Bool, append-nil, arith, length}
use Rattle.std.specs.Prelude.{ℤ}
use Rattle.std.proofs.lemmas.List.Elements.{All-from_recursion}
use Rattle.gp_clause.specs.declared.kind.Kind.{Kind}
use Rattle.gp_clause.specs.declared.lit.Lit.{Lit}
use Rattle.gp_clause.specs.declared.problem.Problem.{Problem}
use Rattle.gp_clause.specs.declared.problem.Query.{Query}
use Rattle.gp_clause.specs.declared.valuation.Valuation.{Valuation}
use Rattle.gp_clause.specs.Problem.{IsValidKind, IsValidQuery}
use Rattle.gp_clause.specs.Valuation.{IsValuation, Meets, ValuationsMeet}
use Rattle.gp_window.specs.declared.schedule.EventId.{EventId}
use Rattle.gp_window.specs.WindowForm.{IsWindow, WindowForm}
use Rattle.gp_constraint.specs.Base.{clauses_of}
use Rattle.gp_constraint.specs.ByPlace.{IsByPlace}
use Rattle.gp_constraint.specs.Extended.{ExtensionsMean, IsExtendedModel, nothing_asked}
use Rattle.gp_constraint.specs.Points.{points_of}
use Rattle.gp_constraint.specs.ScheduleModels.{ScheduleModel}
use Rattle.gp_witness.specs.Complete.{SchedulesAreComplete}
use Rattle.gp_witness.specs.Witness.{WitnessesAreSound}
use Rattle.gp_whole.specs.Linked.{IsLinked, Links}
use Rattle.gp_link.specs.LinkClauses.{link_clauses}
use Rattle.gp_link.specs.LinkLaws.{LinksAreComplete, LinksAreSound, LinksAreValid}
use Rattle.gp_link.specs.LinkProblem.{link_problem_of}

pub links_by : ExtensionsMean → LinksAreSound → WitnessesAreSound → (window next : WindowForm) (query : Query) (valuation : Valuation) (schedule : List EventId)
    → IsWindow window → IsWindow next → Meets (link_problem_of window next) query valuation → IsByPlace window valuation schedule → Links window next schedule
links_by extend sound witnesses window next query valuation schedule is is_next meets by =
    let own = (extend.answers window (link_clauses window next) query valuation meets).meets in
    sound window next query valuation schedule is is_next meets by (witnesses.base window nothing_asked valuation schedule is own by)

module _ (complete : LinksAreComplete) (schedules : SchedulesAreComplete) where
  pub model_of : (window next : WindowForm) (schedule : List EventId) → IsWindow window → IsWindow next → length (points_of window) ≤ 2048
      → Links window next schedule → ScheduleModel window schedule (link_problem_of window next) (link_problem_of window next).kinds []
  model_of window next schedule is is_next few links =
      complete window next schedule is is_next few links (schedules.base window schedule is (links.last, links.runs))

  pub unlinked_by : (window next : WindowForm) → IsWindow window → IsWindow next → length (points_of window) ≤ 2048
      → ((truth : ℕ → Bool) (place : ℕ → ℤ) → IsExtendedModel window (link_clauses window next) truth place → ⊥) → IsLinked window next → ⊥
  unlinked_by window next is is_next few none linked =
      let m = model_of window next linked.0 is is_next few linked.1 in
      none m.truth m.place (record { valuation = m.valuation; clauses = m.clauses })

  pub answer_by : LinksAreValid → ValuationsMeet → (window next : WindowForm) (schedule : List EventId) → IsWindow window → IsWindow next
      → length (points_of window) ≤ 2048 → length (clauses_of window) + length (link_clauses window next) ≤ 500000 → Links window next schedule
      → (valuation : Valuation) × Meets (link_problem_of window next) nothing_asked valuation
  answer_by valid meet window next schedule is is_next few limit links =
      let m = model_of window next schedule is is_next few links in
      let problem : Problem = link_problem_of window next in
      let asked : IsValidQuery problem nothing_asked = record {
        few_locals = omega arith;
        locals = All-from_recursion (IsValidKind problem.points) [] tt;
        assumed = All-from_recursion (λ (lit : Lit). lit.variable < length problem.kinds + 0) [] tt;
        once = λ variable. omega arith;
      } in
      let written = meet.written (length problem.kinds + length nothing_asked.locals) problem.points m.truth m.place in
      let valuation : IsValuation problem.points problem.edges (problem.kinds ++ nothing_asked.locals) m.truth m.place =
      subst (λ (kinds : List Kind). IsValuation problem.points problem.edges kinds m.truth m.place) (sym (append-nil problem.kinds)) m.valuation in (
        written.0,
        meet.meets problem nothing_asked m.truth m.place written.0 (valid.problem window next few limit) asked valuation m.clauses m.assumed written.1,
      )
