use Rattle.std.proofs.Common.{◌≡◌, sym, subst, true}
use Rattle.std.specs.Prelude.{IfOk}
use Rattle.std.proofs.lemmas.Result.{IfOk-weaker}
use Rattle.gp_clause.specs.declared.problem.Query.{Query}
use Rattle.gp_clause.specs.Problem.{IsValidQuery}
use Rattle.gp_constraint.specs.Base.{base_of}
use Rattle.gp_stuck.specs.Cycle.{is_cycle}
use Rattle.gp_stuck.specs.StuckQuery.{stuck_query_of}
use Rattle.gp_window.specs.WindowForm.{WindowForm}
use Rattle.gp_deadlock_checker.proofs.answer.query_of.Goals as goal

pub stuck_query-requires : goal.stuck_query-requires
stuck_query-requires c = subst (λ (w : WindowForm). is_cycle w c.args.cycle.now.events ≡ true) (sym c.encoded.ensures) c.requires

pub returns-clause-asked : goal.returns-clause-asked
returns-clause-asked c =
    let ids = c.args.cycle.now.events in
    subst (λ (w : WindowForm). IfOk c.stuck_query.result (λ (query : Query). query ≡ stuck_query_of w ids)) c.encoded.ensures c.stuck_query.ensures

pub returns-clause-valid : goal.returns-clause-valid
returns-clause-valid c =
    let window = c.args.checker.now.window in
    let ids = c.args.cycle.now.events in
    IfOk-weaker c.stuck_query.result (λ (query : Query). query ≡ stuck_query_of window ids) (IsValidQuery (base_of window))
    (λ query is. subst (IsValidQuery (base_of window)) (sym is) (c.laws.ensures.queries window ids c.requires))
    (subst (λ (w : WindowForm). IfOk c.stuck_query.result (λ (query : Query). query ≡ stuck_query_of w ids)) c.encoded.ensures c.stuck_query.ensures)
