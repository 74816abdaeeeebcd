-- An answer to a lifted query gives a schedule and its pairs, and without one no schedule has pairs.
use Rattle.std.proofs.Common.{◌≡◌, refl, ap, sym, ◌∙◌, subst, List, [], ◌∷◌, ◌++◌, inl, inr}
use Rattle.std.specs.List.{list_any}
use Rattle.std.proofs.lemmas.Bool.{cases_Bool}
use Rattle.gp_window.specs.Ids.{contains_event}
use Rattle.gp_window.specs.WindowForm.{WindowForm}
use Rattle.gp_window.specs.declared.schedule.EventId.{EventId}
use Rattle.gp_clause.specs.declared.problem.Query.{Query}
use Rattle.gp_clause.specs.declared.valuation.Valuation.{Valuation}
use Rattle.gp_clause.specs.Valuation.{Meets}
use Rattle.gp_replay.specs.Feasible.{IsFeasible}
use Rattle.gp_constraint.specs.ByPlace.{IsByPlace}
use Rattle.gp_constraint.specs.Query.{query_of}
use Rattle.gp_witness.specs.Answered.{IsWitness}
use Rattle.gp_witness.specs.Complete.{SchedulesAreComplete}
use Rattle.gp_witness.specs.Witness.{up_to_last}
use Rattle.gp_notify.specs.Extended.{extended_of, lower}
use Rattle.gp_notify.specs.Laws.{AnswersAreLowered, SignalsAreAdded, SignalsAreSound}
use Rattle.gp_notify.specs.Pairs.{pairs_of}
use Rattle.gp_notify.specs.Signalled.{IsSignalled}
use Rattle.gp_notified.specs.AnsweredLaws.{SignalsAreAnswered}

-- a schedule up to the last of these events, and what comes behind it
back_of : (events ids : List EventId) → (back : List EventId) × (ids ≡ up_to_last events ids ++ back)
back_of events [] = ([], refl)
back_of events (id ∷ ids) =
    elim (cases_Bool (list_any (contains_event events) (id ∷ ids))) [
      | inl some ↦ let rest = back_of events ids in (rest.0, rw some (ap (λ xs. id ∷ xs) rest.1))
      | inr none ↦ (id ∷ ids, rw none refl)
    ]

paired : AnswersAreLowered → SignalsAreSound → (window : WindowForm) (query : Query) (valuation : Valuation) (ids schedule : List EventId) → Meets (extended_of window) query valuation
    → IsWitness window (lower window valuation) ids schedule → IsFeasible window schedule → IsSignalled window schedule (pairs_of window schedule valuation)
paired lowered sound window query valuation ids schedule meets (all, by, is) feasible =
    let split = back_of ids all in
    let parts : all ≡ schedule ++ split.0 = split.1 ∙ ap (λ (front : List EventId). front ++ split.0) (sym is) in
    sound window query valuation schedule split.0 meets
    (subst (IsByPlace window valuation) parts (lowered.schedules window query valuation all meets by)) feasible

pub answered : AnswersAreLowered → SignalsAreSound → SignalsAreAdded → SchedulesAreComplete → SignalsAreAnswered
answered lowered sound added complete = record {
  lowered = λ window query valuation is meets. lowered.answers window query valuation is.points is.clauses meets;
  paired = paired lowered sound;
  impossible = λ window property ids is points clauses none own shown.
      let schedule = own.schedule.events in
      let m = added window schedule own.pairs (query_of window property ids) points clauses shown.signalled
      (complete.instance window property ids schedule is shown.schedule.feasible shown.schedule.matches) in
      none m.truth m.place m.valuation m.clauses m.assumed;
}
