-- The schedule answers the query of the window, and the pairs are those of the answer to the lifted one.
use Rattle.std.proofs.Common.{sym, subst, List}
use Rattle.gp_clause.specs.declared.valuation.Valuation.{Valuation}
use Rattle.gp_clause.specs.Valuation.{Meets}
use Rattle.gp_window.specs.WindowForm.{WindowForm}
use Rattle.gp_replay.specs.Feasible.{IsFeasible}
use Rattle.gp_constraint.specs.Base.{base_of}
use Rattle.gp_constraint.specs.Query.{query_of}
use Rattle.gp_witness.specs.Answered.{IsWitness}
use Rattle.gp_notify.specs.declared.pair.Pair.{Pair}
use Rattle.gp_notify.specs.Extended.{lift}
use Rattle.gp_notify.specs.Signalled.{IsSignalled}
use Rattle.gp_notified.proofs.showing.shown_by.Goals as goal

pub schedule_of-requires-clause-answer : goal.schedule_of-requires-clause-answer
schedule_of-requires-clause-answer c =
    let window = c.args.extended.now in
    let property = c.args.property.now in
    let ids = c.args.instance.now.events in
    let meets = c.signals_are_answered.ensures.lowered window (query_of window property ids) c.args.valuation.now c.window.ensures.encodable c.requires.meets in
    let own = subst (λ (answer : Valuation). Meets (base_of window) (query_of window property ids) answer) (sym c.in_ok-lowered.ensures) meets in
    subst (λ (w : WindowForm). Meets (base_of w) (query_of w property ids) c.in_ok-lowered.lowered) (sym c.encoded.ensures) own

pub returns : goal.returns
returns c =
    let window = c.args.extended.now in
    let property = c.args.property.now in
    let ids = c.args.instance.now.events in
    let schedule = c.in_ok-schedule.schedule.events in
    let lowered = c.in_ok-lowered.lowered in
    let feasible = subst (λ (w : WindowForm). IsFeasible w schedule) c.encoded.ensures c.in_ok-schedule.ensures.feasible in
    let witness = subst (λ (w : WindowForm). IsWitness w lowered ids schedule) c.encoded.ensures c.in_ok-schedule.ensures.order in
    let by = subst (λ (answer : Valuation). IsWitness window answer ids schedule) c.in_ok-lowered.ensures witness in
    let signalled = c.signals_are_answered.ensures.paired window (lift window (query_of window property ids)) c.args.valuation.now ids schedule c.requires.meets by feasible in
    record {
      schedule = record { feasible = feasible; matches = c.in_ok-schedule.ensures.matches };
      signalled = subst (λ (pairs : List Pair). IsSignalled window schedule pairs) (sym c.in_ok-pairs.ensures) signalled;
    }
