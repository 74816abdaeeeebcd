-- The question which threads can come to their end is lawful.
use Rattle.std.proofs.Common.{◌≡◌, sym, subst, refl, ℕ, Bool, true, false, List, [], ◌∷◌, Option, Some, None, Result, Ok, Err, if◌then◌else◌, append-nil, arith}
use Rattle.std.specs.Prelude.{is_ok}
use Rattle.std.specs.List.{list_all}
use Rattle.std.proofs.lemmas.Bool.{and_parts}
use Rattle.std.proofs.lemmas.Option.{none-some, same_Some}
use Rattle.gp_clause.specs.declared.kind.Kind.{Kind}
use Rattle.gp_clause.specs.Valuation.{IsValuation}
use Rattle.gp_constraint.specs.Base.{base_of}
use Rattle.gp_constraint.specs.EncodedLaws.{few_clauses, is_valid}
use Rattle.gp_constraint.specs.Laws.{ProblemsAreValid}
use Rattle.gp_constraint.specs.PointLaws.{IsEventOf}
use Rattle.gp_replay.specs.declared.running.ReplayFault.{ReplayFault}
use Rattle.gp_replay.specs.declared.state.State.{State}
use Rattle.gp_replay.specs.Feasible.{IsFeasible, ReplayMeansFeasible, end_of}
use Rattle.gp_report.specs.declared.record.AnswerOf.{AnswerOf}
use Rattle.gp_report.specs.declared.record.AnswerOf.TheVariants.{Found}
use Rattle.gp_window.specs.declared.schedule.EventId.{EventId}
use Rattle.gp_window.specs.declared.schedule.Schedule.{Schedule}
use Rattle.gp_window.specs.Ids.{contains_event}
use Rattle.gp_window.specs.WindowForm.{IsWindow, WindowForm}
use Rattle.gp_witness.specs.Complete.{SchedulesAreComplete}
use Rattle.gp_analysis.specs.Question.{HasNoValuation, Holds, IsAsk, IsLawful}
use Rattle.gp_patterns.specs.EncodableLaws.{is_encodable, large_left_out}
use Rattle.gp_bridge_rows.specs.Ends.{EndsAt, IsEnd, ends_at, given_by, query_of}
use Rattle.gp_bridge_rows.specs.Question.{ending}
use Rattle.gp_bridge_rows.proofs.Asked.{assumed_holds, valid_query}
use Rattle.gp_bridge_rows.proofs.EndsListed.{ends_listed}

none_ends : SchedulesAreComplete → (window : WindowForm) (id : EventId) (schedule : List EventId) → IsEventOf window id → IsWindow window
    → HasNoValuation (base_of window) (query_of window (id ∷ [])) → EndsAt window (id ∷ []) schedule → ⊥
none_ends complete window id schedule there is_window none ends =
    let model = complete.base window schedule is_window ends.feasible in
    none model.truth model.place
    (subst (λ (kinds : List Kind). IsValuation (base_of window).points (base_of window).edges kinds model.truth model.place) (sym (append-nil (base_of window).kinds)) model.valuation)
    model.clauses (assumed_holds window id schedule there ends model)

feasible_where : ReplayMeansFeasible → (window : WindowForm) (schedule : List EventId) (end : Result State ReplayFault) → end_of window schedule ≡ end → is_ok end ≡ true → IsFeasible window schedule
feasible_where means window schedule (Ok last) is ok = (last, (means.ends window schedule last).0 is)
feasible_where means window schedule (Err fault) is ok = cc

ends_where : ReplayMeansFeasible → (window : WindowForm) (ids schedule : List EventId) → ends_at window ids schedule ≡ true → EndsAt window ids schedule
ends_where means window ids schedule test =
    let parts = and_parts (is_ok (end_of window schedule)) (list_all (contains_event schedule) ids) test in
    record { feasible = feasible_where means window schedule (end_of window schedule) refl parts.0; has = parts.1 }

given_if : ReplayMeansFeasible → (name : List ℕ) (kept : Option Schedule) (window : WindowForm) (subject : List ℕ) (ids : List EventId) (schedule : Schedule) (answer : AnswerOf Schedule) (test : Bool)
    → ends_at window ids schedule.events ≡ test → (if test then Some (Found schedule) else None) ≡ Some answer → Holds (ending name kept) window subject ids [] answer
given_if means name kept window subject ids schedule answer true test is =
    subst (Holds (ending name kept) window subject ids []) (same_Some (Found schedule) answer is) (ends_where means window ids schedule.events test)
given_if means name kept window subject ids schedule answer false test is = absurd (none-some answer is)

given_holds : ReplayMeansFeasible → (name : List ℕ) (all kept : Option Schedule) (window : WindowForm) (subject : List ℕ) (ids : List EventId) (answer : AnswerOf Schedule)
    → given_by window ids kept ≡ Some answer → Holds (ending name all) window subject ids [] answer
given_holds means name all None window subject ids answer is = absurd (none-some answer is)
given_holds means name all (Some schedule) window subject ids answer is =
    given_if means name all window subject ids schedule answer (ends_at window ids schedule.events) refl is

ask_one : ReplayMeansFeasible → SchedulesAreComplete → (name : List ℕ) (kept : Option Schedule) (window : WindowForm) (subject : List ℕ) (id : EventId) → IsEventOf window id
    → IsAsk (ending name kept) window subject (id ∷ [])
ask_one means complete name kept window subject id there = record {
  some = omega arith;
  few = omega arith;
  query = λ fits. valid_query window id there;
  complete = λ is_window fits none shown ends. none_ends complete window id shown.events there is_window none ends;
  given = λ is_window fits answer is. given_holds means name kept kept window subject (id ∷ []) answer is;
}

pub is_lawful : (name : List ℕ) (kept : Option Schedule) → ProblemsAreValid → ReplayMeansFeasible → SchedulesAreComplete → IsLawful (ending name kept) (λ window subject ids. IsEnd window ids)
is_lawful name kept valid means complete = record {
  few = omega arith;
  listed = (λ window number. ends_listed window number, tt);
  ask = λ window subject ids is. subst (IsAsk (ending name kept) window subject) (sym is.one) (ask_one means complete name kept window subject is.id is.there);
  problem = λ window fits.
      let is = is_encodable window fits in
      record { valid = is_valid valid window is; solvable = valid.solvable window; few_clauses = few_clauses window is; shares = tt };
  large = large_left_out;
}
