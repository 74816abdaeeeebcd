-- What all workers handed back is the work.
use Rattle.std.proofs.Common.{◌≡◌, refl, ◌∙◌, sym, ap, subst, ℕ, List, length, arith}
use Rattle.crossbeam_queue.specs.Passes.{Pass}
use Rattle.gp_derivation.specs.declared.exchange.SharedClause.{SharedClause}
use Rattle.gp_inbox.specs.declared.inbox.Inbox.{Inbox}
use Rattle.gp_inbox.specs.declared.rule.View.{View}
use Rattle.gp_workers.specs.Sharing.{AllShared}
use Rattle.gp_workers.specs.SharedCrew.{AreSharingJobs}
use Rattle.gp_workers.specs.Work.{IsWork}
use Rattle.gp_workers.proofs.SharedWork.{still_work}
use Rattle.gp_workers.proofs.window.work_together.Goals as goal

pub work_side_by_side-made-requires-clause-crew : goal.work_side_by_side-made-requires-clause-crew
work_side_by_side-made-requires-clause-crew g c κs within =
    let all : length c.as_slice.result.now ≡ c.args.workers = ap (λ (inboxes : List Inbox). length inboxes) c.as_slice.ensures.value ∙ c.in_ok-inboxes.ensures.own_inboxes in
    c.in_ok-inboxes.ensures.crew ∙ sym all

pub work_side_by_side-made-requires-clause-few : goal.work_side_by_side-made-requires-clause-few
work_side_by_side-made-requires-clause-few g c κs within =
    let all : length c.as_slice.result.now ≡ c.args.workers = ap (λ (inboxes : List Inbox). length inboxes) c.as_slice.ensures.value ∙ c.in_ok-inboxes.ensures.own_inboxes in
    (omega (arith, all, c.requires.workers), omega (arith, all, c.requires.workers), c.in_ok-inboxes.ensures.own_jobs ∙ sym all)

pub work_side_by_side-made-requires-clause-jobs : goal.work_side_by_side-made-requires-clause-jobs
work_side_by_side-made-requires-clause-jobs g c κs within =
    let hired = c.in_ok-inboxes.field-0 in
    subst (λ (inboxes : List Inbox). AreSharingJobs hired.tickets c.args.problem.now inboxes hired.jobs.items) (sym c.as_slice.ensures.value) c.in_ok-inboxes.ensures.each

pub returns-clause-work : goal.returns-clause-work
returns-clause-work g c =
    let all : length c.as_slice.result.now ≡ c.args.workers = ap (λ (inboxes : List Inbox). length inboxes) c.as_slice.ensures.value ∙ c.in_ok-inboxes.ensures.own_inboxes in
    still_work c.args.problem.now c.args.queries.now c.args.workers c.args.budget c.in_ok-work.work _ refl refl (subst (λ (n : ℕ). IsWork c.args.problem.now c.args.queries.now n c.args.budget c.in_ok-work.work) all c.in_ok-work.ensures.work)

pub returns-clause-shared : goal.returns-clause-shared
returns-clause-shared g c =
    let all : length c.as_slice.result.now ≡ c.args.workers = ap (λ (inboxes : List Inbox). length inboxes) c.as_slice.ensures.value ∙ c.in_ok-inboxes.ensures.own_inboxes in
    let passes = c.from_vec-passes.ensures in
    subst (λ (p : ℕ × List (Pass SharedClause View)). AllShared c.args.problem.now p.0 c.in_ok-work.work.records p.1) (λ i. (all i, sym passes i)) c.in_ok-work.ensures.shared
