-- What the one worker handed back is the work.
use Rattle.std.proofs.Common.{◌≡◌, ◌∙◌, sym, subst, [], ◌∷◌}
use Rattle.std.specs.Prelude.{IfOk}
use Rattle.gp_workers.specs.declared.work.WindowWork.{WindowWork}
use Rattle.gp_workers.specs.Work.{IsWork}
use Rattle.gp_workers.proofs.CrewAlone.{nothing_shared, same_if_ok}
use Rattle.gp_workers.proofs.window.work_alone.Goals as goal

pub returns-clause-work : goal.returns-clause-work
returns-clause-work g c =
    let load = c.args.load.now in
    let tickets = load.tickets.now in
    let problem = load.problem.now in
    let queries = load.queries.now in
    subst (λ n. IfOk c.into_work.result (IsWork problem queries n load.budget)) c.requires.crew
    (c.into_work.ensures.work tickets problem queries load.budget (c.in_ok-of.ensures.gathered tickets problem queries load.budget c.in_ok-worked.ensures.done) (c.in_ok-of.ensures.first ∙ sym c.requires.crew) c.requires.count)

pub returns-clause-alone : goal.returns-clause-alone
returns-clause-alone g c =
    let own = c.in_ok-worked.worked.record in
    nothing_shared own c.into_work.result c.in_ok-worked.ensures.none_offered c.in_ok-worked.ensures.shares
    (same_if_ok (λ (work : WindowWork). work.records ≡ c.in_ok-of.field-0.records.items) (λ work. work.records ≡ own ∷ []) c.into_work.result (λ work is. is ∙ c.in_ok-of.ensures.records) c.into_work.ensures.records)
    c.into_work.ensures.passes
