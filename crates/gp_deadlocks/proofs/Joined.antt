-- An answer to the query of a cycle ends stuck, and without one no schedule does.
use Rattle.std.proofs.Common.{List}
use Rattle.std.proofs.lemmas.List.Elements.{All-nil}
use Rattle.gp_clause.specs.declared.valuation.Valuation.{Valuation}
use Rattle.gp_clause.specs.Lit.{HoldsLit}
use Rattle.gp_clause.specs.Valuation.{Meets, truth_of}
use Rattle.gp_window.specs.declared.schedule.EventId.{EventId}
use Rattle.gp_window.specs.WindowForm.{WindowForm}
use Rattle.gp_constraint.specs.Base.{base_of}
use Rattle.gp_witness.specs.Answered.{SolvesWindow}
use Rattle.gp_witness.specs.Complete.{SchedulesAreComplete}
use Rattle.gp_witness.specs.Witness.{WitnessesAreSound}
use Rattle.gp_stuck.specs.Laws.{CyclesBlock, StuckAnswersAreSound, StuckSchedulesAreComplete}
use Rattle.gp_stuck.specs.StuckQuery.{stuck_query_of}
use Rattle.gp_deadlocks.specs.AnsweredLaws.{StuckCyclesAreAnswered}

pub answered : CyclesBlock → StuckAnswersAreSound → StuckSchedulesAreComplete → WitnessesAreSound → SchedulesAreComplete → StuckCyclesAreAnswered
answered block sound complete witnesses schedules = record {
  ends = λ window ids valuation schedule is cycle meets by.
      sound window ids valuation schedule is cycle meets by (witnesses.base window (stuck_query_of window ids) valuation schedule is meets by);
  impossible = λ window ids is cycle none stuck.
      let m = complete window ids cycle stuck (schedules.base window stuck.0 is (stuck.1, stuck.2)) in
      none m.truth m.place m.valuation m.clauses m.assumed;
  none_ends = λ window ids schedule is cycle ends. (block.stuck window ids is cycle).1 (schedule, ends);
}

-- an answer to the query is one to the window
pub solves_window : (window : WindowForm) (ids : List EventId) (valuation : Valuation) → Meets (base_of window) (stuck_query_of window ids) valuation → SolvesWindow window valuation
solves_window window ids valuation meets = record {
  truth = meets.truth;
  places = meets.places;
  edges = meets.edges;
  clauses = meets.clauses;
  assumed = All-nil (HoldsLit (truth_of valuation));
  bounds = meets.bounds;
}
