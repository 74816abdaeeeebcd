-- The executed events of an answer to the query of a cycle end just before its events.
use Rattle.std.proofs.Common.{ℕ, zero, suc, ◌≡◌, ◌<◌, ◌≤◌, sym, ◌∙◌, refl, inl, inr, List, [], ◌∷◌, true, arith}
use Rattle.std.specs.List.{AllByRecursion}
use Rattle.std.proofs.lemmas.Bool.{cases_lt, false≢true}
use Rattle.std.proofs.lemmas.List.Elements.{recursion_from_All}
use Rattle.gp_clause.specs.Lit.{HoldsLit}
use Rattle.gp_clause.specs.Valuation.{Meets, truth_of}
use Rattle.gp_clause.specs.declared.valuation.Valuation.{Valuation}
use Rattle.gp_window.specs.declared.schedule.EventId.{EventId}
use Rattle.gp_window.specs.WindowForm.{WindowForm}
use Rattle.gp_replay.specs.declared.state.State.{State}
use Rattle.gp_replay.specs.Counted.{EventsAreCounted}
use Rattle.gp_replay.specs.Feasible.{Runs}
use Rattle.gp_replay.specs.Step.{count_of, start_state}
use Rattle.gp_constraint.specs.Base.{base_of}
use Rattle.gp_constraint.specs.ByPlace.{IsByPlace, IsExecuted}
use Rattle.gp_constraint.specs.PointLaws.{event_id, IsEventOf}
use Rattle.gp_stuck.specs.Cycle.{is_cycle}
use Rattle.gp_stuck.specs.Laws.{CyclesBlock, StuckAnswersAreSound}
use Rattle.gp_stuck.specs.Stuck.{AreNext}
use Rattle.gp_stuck.specs.StuckQuery.{stuck_query_of}
use Rattle.gp_stuck.proofs.Events.{cycle_events, there_before}
use Rattle.gp_stuck.proofs.Stops.{StopsAt, stops_told}

not_less : (index count : ℕ) → ((k : ℕ) → index ≡ suc k → k < count) → index ≤ count
not_less zero count h = omega arith
not_less (suc k) count h = let less = h k refl in omega (arith, less)

-- the event is its thread's next one
next_from : (window : WindowForm) (valuation : Valuation) (schedule : List EventId) (last : State) (id : EventId) → EventsAreCounted
    → Runs window (start_state window) schedule last → IsByPlace window valuation schedule → IsEventOf window id
    → StopsAt window (truth_of valuation) id → count_of last id.thread ≡ id.index
next_from window valuation schedule last id counted r by there stops =
    let low : id.index ≤ count_of last id.thread = not_less id.index (count_of last id.thread) (λ k is.
    let one : EventId = event_id id.thread k in
    let executed : IsExecuted window valuation one = (there_before window id.thread k id.index (omega (arith, is)) there, stops.before k is) in
    (counted window schedule last r one).0 (by.all one executed)) in
    elim (cases_lt id.index (count_of last id.thread)) [
      | inl less ↦
          let executed : IsExecuted window valuation id = by.only id ((counted window schedule last r id).1 less) in
          absurd (false≢true (sym stops.itself ∙ executed.1))
      | inr high ↦ omega (arith, low, high)
    ]

all_next : (window : WindowForm) (valuation : Valuation) (schedule : List EventId) (last : State) (ids : List EventId) → EventsAreCounted
    → Runs window (start_state window) schedule last → IsByPlace window valuation schedule → AllByRecursion (IsEventOf window) ids
    → AllByRecursion (StopsAt window (truth_of valuation)) ids → AreNext last ids
all_next window valuation schedule last [] counted r by there stops = tt
all_next window valuation schedule last (id ∷ ids) counted r by there stops = (
  next_from window valuation schedule last id counted r by there.0 stops.0,
  all_next window valuation schedule last ids counted r by there.1 stops.1,
)

answer_next : (window : WindowForm) (ids : List EventId) (valuation : Valuation) (schedule : List EventId) (last : State) → EventsAreCounted
    → is_cycle window ids ≡ true → Meets (base_of window) (stuck_query_of window ids) valuation → IsByPlace window valuation schedule
    → Runs window (start_state window) schedule last → AreNext last ids
answer_next window ids valuation schedule last counted cycle meets by r =
    all_next window valuation schedule last ids counted r by (cycle_events window ids cycle)
    (stops_told window (truth_of valuation) ids (recursion_from_All (HoldsLit (truth_of valuation)) (stuck_query_of window ids).assumed meets.assumed))

-- so where the events are feasible, they end stuck
pub sound : CyclesBlock → EventsAreCounted → StuckAnswersAreSound
sound block counted = λ window ids valuation schedule is cycle meets by feasible.
    let turns = answer_next window ids valuation schedule feasible.0 counted cycle meets by feasible.1 in
    (feasible.0, feasible.1, block.block window ids schedule feasible.0 is cycle feasible.1 turns)
