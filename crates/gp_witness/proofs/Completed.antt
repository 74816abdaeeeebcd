-- A feasible schedule as a model of the constraints, and of the query that it matches.
use Rattle.std.proofs.Common.{ℕ, ◌≡◌, sym, subst, List, [], ◌++◌, Bool, true, arith}
use Rattle.gp_clause.specs.declared.kind.Kind.{Kind}
use Rattle.gp_clause.specs.Valuation.{IsValuation}
use Rattle.gp_instance.specs.Matches.{matches_events}
use Rattle.gp_instance.specs.Rows.{GroupsStandInRows}
use Rattle.gp_property.specs.PropertyForm.{PropertyForm}
use Rattle.gp_window.specs.declared.schedule.EventId.{EventId}
use Rattle.gp_window.specs.Formed.{IsFormed}
use Rattle.gp_window.specs.WindowForm.{WindowForm}
use Rattle.gp_replay.specs.Feasible.{IsFeasible}
use Rattle.gp_constraint.specs.declared.symbol.Symbol.{Symbol}
use Rattle.gp_constraint.specs.Base.{base_of, clauses_of, names_in}
use Rattle.gp_constraint.specs.PointLaws.{event_below}
use Rattle.gp_constraint.specs.Points.{number_in}
use Rattle.gp_constraint.specs.Query.{query_names, query_of}
use Rattle.gp_constraint.specs.Truths.{AreTrue, TruthsAreNumbered, variable_true}
use Rattle.gp_witness.specs.Asked.{MeetsQuery}
use Rattle.gp_witness.specs.Complete.{ScheduleModel}
use Rattle.gp_witness.specs.Meaning.{Truth}
use Rattle.gp_witness.specs.ScheduleTruth.{schedule_truth}
use Rattle.gp_witness.proofs.All.{meets_all}
use Rattle.gp_witness.proofs.Assumed.{AreEvents, assumed_true}
use Rattle.gp_witness.proofs.Matched.{executed_event, matches_meet}
use Rattle.gp_witness.proofs.Located.{says}
use Rattle.gp_witness.proofs.Sought.{all_true}
use Rattle.gp_witness.proofs.Valued.{place_at, says_schedule, valued}
use Rattle.gp_witness.proofs.Written.{IsTold}

-- the clauses of the window are true
clauses_true : (window : WindowForm) (ids : List EventId) → IsFormed window → IsTold window → IsFeasible window ids
    → AreTrue (says window (schedule_truth window ids)) (clauses_of window)
clauses_true window ids formed told feasible =
    all_true window (schedule_truth window ids) (record { formed = formed; meets = meets_all window ids formed told feasible })

pub base_model : (window : WindowForm) (ids : List EventId) → TruthsAreNumbered → IsFormed window → IsTold window → IsFeasible window ids
    → ScheduleModel window ids (base_of window) (base_of window).kinds []
base_model window ids numbered formed told feasible =
    let t : Truth = schedule_truth window ids in
    let truth : ℕ → Bool = variable_true (names_in window) (says window t) in
    record {
      truth = truth;
      place = place_at window t;
      valuation = valued window ids (names_in window) feasible;
      clauses = numbered.base window (says window t) (clauses_true window ids formed told feasible);
      assumed = λ k d below. absurd (omega (arith, below));
      says = says_schedule window ids truth feasible (λ e is. numbered.points window (says window t) (number_in window e) (event_below window e is));
    }

pub query_model : (window : WindowForm) (property : PropertyForm) (ids schedule : List EventId) → TruthsAreNumbered → GroupsStandInRows → IsFormed window → IsTold window
    → IsFeasible window schedule → matches_events property ids schedule ≡ true
    → ScheduleModel window schedule (base_of window) ((base_of window).kinds ++ (query_of window property ids).locals) (query_of window property ids).assumed
query_model window property ids schedule numbered rows formed told feasible matches =
    let t : Truth = schedule_truth window schedule in
    let names : List Symbol = query_names window property ids in
    let truth : ℕ → Bool = variable_true names (says window t) in
    let meets : MeetsQuery window t property ids = matches_meet window schedule property ids rows feasible matches in
    let events : AreEvents window ids = (λ id has. executed_event window schedule id feasible (meets.executed id has)) in
    record {
      truth = truth;
      place = place_at window t;
      valuation = subst (λ (kinds : List Kind). IsValuation (base_of window).points (base_of window).edges kinds truth (place_at window t))
          (sym (numbered.kinds window property ids)) (valued window schedule names feasible);
      clauses = numbered.clauses window property ids (says window t) (clauses_true window schedule formed told feasible);
      assumed = numbered.assumed window property ids (says window t) events (assumed_true window t property ids events meets);
      says = says_schedule window schedule truth feasible (λ e is. numbered.query_points window property ids (says window t) (number_in window e) (event_below window e is));
    }
