-- A schedule that ends just before the events of a cycle makes the query of the cycle true.
use Rattle.std.proofs.Common.{ℕ, ◌≡◌, ◌<◌, ◌∙◌, List, [], ◌∷◌, Bool, arith}
use Rattle.std.specs.Prelude.{ℤ}
use Rattle.std.specs.List.{AllByRecursion}
use Rattle.std.proofs.lemmas.Bool.{false_from_ne_true}
use Rattle.std.proofs.lemmas.List.Elements.{All-from_recursion}
use Rattle.gp_clause.specs.Lit.{HoldsLit}
use Rattle.gp_window.specs.declared.schedule.EventId.{EventId}
use Rattle.gp_window.specs.IdLaws.{contains_means}
use Rattle.gp_window.specs.Ids.{contains_event}
use Rattle.gp_window.specs.WindowForm.{WindowForm}
use Rattle.gp_replay.specs.declared.state.State.{State}
use Rattle.gp_replay.specs.Counted.{EventsAreCounted}
use Rattle.gp_replay.specs.Feasible.{Runs}
use Rattle.gp_replay.specs.Step.{count_of, start_state}
use Rattle.gp_constraint.specs.PointLaws.{event_id, IsEventOf}
use Rattle.gp_constraint.specs.ScheduleModels.{SaysSchedule}
use Rattle.gp_stuck.specs.Laws.{StuckSchedulesAreComplete}
use Rattle.gp_stuck.specs.Stuck.{AreNext}
use Rattle.gp_stuck.specs.StuckQuery.{stuck_query_of}
use Rattle.gp_stuck.proofs.Events.{cycle_events, there_before}
use Rattle.gp_stuck.proofs.Stops.{StopsAt, stops_true}

-- where the event is its thread's next one, the event before it is executed and it is not
stops_at : (window : WindowForm) (schedule : List EventId) (last : State) (truth : ℕ → Bool) (place : ℕ → ℤ) (id : EventId) → EventsAreCounted
    → Runs window (start_state window) schedule last → SaysSchedule window schedule truth place → IsEventOf window id
    → count_of last id.thread ≡ id.index → StopsAt window truth id
stops_at window schedule last truth place id counted r says there turn = record {
  before = λ index is.
      let one : EventId = event_id id.thread index in
      let less : index < count_of last id.thread = omega (arith, is, turn) in
      says.executed one (there_before window id.thread index id.index (omega (arith, is)) there)
      ∙ (contains_means schedule one).1 ((counted window schedule last r one).1 less);
  itself = says.executed id there ∙ false_from_ne_true (contains_event schedule id) (λ e.
      let less = (counted window schedule last r id).0 ((contains_means schedule id).0 e) in
      absurd (omega (arith, less, turn)));
}

all_stop : (window : WindowForm) (schedule : List EventId) (last : State) (truth : ℕ → Bool) (place : ℕ → ℤ) (ids : List EventId) → EventsAreCounted
    → Runs window (start_state window) schedule last → SaysSchedule window schedule truth place → AllByRecursion (IsEventOf window) ids → AreNext last ids
    → AllByRecursion (StopsAt window truth) ids
all_stop window schedule last truth place [] counted r says there turns = tt
all_stop window schedule last truth place (id ∷ ids) counted r says there turns = (
  stops_at window schedule last truth place id counted r says there.0 turns.0,
  all_stop window schedule last truth place ids counted r says there.1 turns.1,
)

-- so a model that says what a stuck schedule does makes the query of the cycle true
pub complete : EventsAreCounted → StuckSchedulesAreComplete
complete counted = λ window ids cycle stuck m. record {
  truth = m.truth;
  place = m.place;
  valuation = m.valuation;
  clauses = m.clauses;
  assumed = All-from_recursion (HoldsLit m.truth) (stuck_query_of window ids).assumed
      (stops_true window m.truth ids (all_stop window stuck.0 stuck.1 m.truth m.place ids counted stuck.2 m.says (cycle_events window ids cycle) stuck.3));
  says = m.says;
}
