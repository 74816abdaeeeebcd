-- The parts of what the workers handed back are put together again.
use Rattle.std.proofs.Common.{◌≡◌, ◌∙◌, sym, ap, subst, ℕ, List, length, map, All}
use Rattle.std.specs.Global.{Vec}
use Rattle.std.proofs.lemmas.List.{length-map}
use Rattle.crossbeam_queue.specs.Passes.{Pass}
use Rattle.gp_derivation.specs.declared.exchange.SharedClause.{SharedClause}
use Rattle.gp_inbox.specs.declared.rule.View.{View}
use Rattle.gp_workers.specs.declared.crew.Shared.{Shared}
use Rattle.gp_workers.specs.declared.crew.Worked.{Worked}
use Rattle.gp_workers.specs.Crew.{AreDone}
use Rattle.gp_tickets.specs.Drawn.{HasDrawn}
use Rattle.gp_workers.specs.Inboxes.{AreJoined, AreRows}
use Rattle.gp_workers.specs.Work.{IsWork}
use Rattle.gp_workers.proofs.SharedWork.{all_shared, all_take, all_whole, are_done, are_rows}
use Rattle.gp_workers.proofs.CrewJobs.{all_drawn}
use Rattle.gp_workers.proofs.sharing.finish.Goals as goal

pub join_all-passes-requires-clause-rows : goal.join_all-passes-requires-clause-rows
join_all-passes-requires-clause-rows g c =
    let load = c.args.load.now in
    subst (AreRows c.args.inboxes.now) (sym c.in_ok-crew.ensures.passes) (are_rows load.tickets.now load.problem.now load.queries.now load.budget c.args.inboxes.now 0 c.args.crew.items c.requires.back)

pub drain_all-requires-clause-takers : goal.drain_all-requires-clause-takers
drain_all-requires-clause-takers g c =
    let load = c.args.load.now in
    all_take load.tickets.now load.problem.now load.queries.now load.budget c.args.inboxes.now c.args.crew.items c.requires.back c.requires.some.1 c.join_all-passes.result.items
    (subst (λ (rows : List (Vec (Pass SharedClause View))). AreJoined c.args.inboxes.now rows c.join_all-passes.result.items) c.in_ok-crew.ensures.passes c.join_all-passes.ensures)

pub gather-requires-clause-drawn : goal.gather-requires-clause-drawn
gather-requires-clause-drawn g c =
    let load = c.args.load.now in
    subst (All (λ (worked : Worked). HasDrawn load.tickets.now worked.drawn)) (sym c.in_ok-crew.ensures.worked)
    (all_drawn load.tickets.now load.problem.now load.queries.now load.budget 1 (map (λ (shared : Shared). shared.worked) c.args.crew.items)
    (are_done load.tickets.now load.problem.now load.queries.now load.budget c.args.inboxes.now 0 c.args.crew.items c.requires.back))

pub returns-clause-work : goal.returns-clause-work
returns-clause-work g c =
    let load = c.args.load.now in
    let done : AreDone load.tickets.now load.problem.now load.queries.now load.budget 1 c.in_ok-crew.crew.items =
    subst (AreDone load.tickets.now load.problem.now load.queries.now load.budget 1) (sym c.in_ok-crew.ensures.worked) (are_done load.tickets.now load.problem.now load.queries.now load.budget c.args.inboxes.now 0 c.args.crew.items c.requires.back) in
    let all : length c.in_ok-gather.field-0.records.items ≡ load.tickets.now.crew =
    c.in_ok-gather.ensures.len
    ∙ ap (λ (ws : List Worked). length ws) c.in_ok-crew.ensures.worked
    ∙ length-map c.args.crew.items (λ (shared : Shared). shared.worked)
    ∙ c.requires.some.1
    ∙ sym c.requires.crew in
    subst (λ (n : ℕ). IsWork load.problem.now load.queries.now n load.budget c.in_ok-work.work) c.requires.crew
    (c.in_ok-work.ensures.work load.tickets.now load.problem.now load.queries.now load.budget (c.in_ok-gather.ensures.gathered load.problem.now load.queries.now load.budget done) all c.requires.count)

pub returns-clause-shared : goal.returns-clause-shared
returns-clause-shared g c =
    let load = c.args.load.now in
    let joined = subst (λ (rows : List (Vec (Pass SharedClause View))). AreJoined c.args.inboxes.now rows c.join_all-passes.result.items) c.in_ok-crew.ensures.passes c.join_all-passes.ensures in
    let records = c.in_ok-work.ensures.records ∙ c.in_ok-gather.ensures.records ∙ ap (λ (ws : List Worked). map (λ (worked : Worked). worked.record) ws) c.in_ok-crew.ensures.worked in
    all_shared load.tickets.now load.problem.now load.queries.now load.budget c.args.inboxes.now c.args.crew.items c.requires.back c.requires.some.1 c.join_all-passes.result.items joined
    c.drain_all.new.passes.items c.drain_all.ensures.own c.drain_all.ensures.each c.in_ok-work.work.records records

pub returns-clause-whole : goal.returns-clause-whole
returns-clause-whole g c =
    let load = c.args.load.now in
    let joined = subst (λ (rows : List (Vec (Pass SharedClause View))). AreJoined c.args.inboxes.now rows c.join_all-passes.result.items) c.in_ok-crew.ensures.passes c.join_all-passes.ensures in
    all_whole load.tickets.now load.problem.now load.queries.now load.budget c.args.inboxes.now c.args.crew.items c.requires.back c.requires.some.1 c.join_all-passes.result.items joined
    c.drain_all.new.passes.items c.drain_all.ensures.own c.drain_all.ensures.each
