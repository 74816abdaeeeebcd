-- What all workers handed back is the work.
use Rattle.std.proofs.Common.{◌≡◌, ◌∙◌, sym, ap, subst, ℕ, List, length, arith}
use Rattle.gp_inbox.specs.declared.inbox.Inbox.{Inbox}
use Rattle.gp_workers.specs.Sharing.{AllShared}
use Rattle.gp_workers.specs.SharedCrew.{AreSharingJobs}
use Rattle.gp_workers.specs.Work.{IsWork}
use Rattle.gp_workers.proofs.PostRenewed.{some_inboxes}
use Rattle.gp_workers.proofs.window.work_one_by_one.Goals as goal

pub work_after_another-made-requires-clause-crew : goal.work_after_another-made-requires-clause-crew
work_after_another-made-requires-clause-crew g c =
    let all : length c.as_slice.result.now ≡ c.args.workers = ap (λ (inboxes : List Inbox). length inboxes) c.as_slice.ensures.value ∙ c.in_ok-inboxes.ensures.own_inboxes in
    c.in_ok-inboxes.ensures.crew ∙ sym all

pub work_after_another-made-requires-clause-few : goal.work_after_another-made-requires-clause-few
work_after_another-made-requires-clause-few g c =
    let all : length c.as_slice.result.now ≡ c.args.workers = ap (λ (inboxes : List Inbox). length inboxes) c.as_slice.ensures.value ∙ c.in_ok-inboxes.ensures.own_inboxes in
    (omega (arith, all, c.requires.workers), omega (arith, all, c.requires.workers), c.in_ok-inboxes.ensures.own_jobs ∙ sym all)

pub work_after_another-made-requires-clause-jobs : goal.work_after_another-made-requires-clause-jobs
work_after_another-made-requires-clause-jobs g c =
    let hired = c.in_ok-inboxes.field-0 in
    subst (λ (inboxes : List Inbox). AreSharingJobs hired.tickets c.args.problem.now inboxes hired.jobs.items) (sym c.as_slice.ensures.value) c.in_ok-inboxes.ensures.each

pub returns-in-Ok-clause-work : goal.returns-in-Ok-clause-work
returns-in-Ok-clause-work g c =
    let all : length c.as_slice.result.now ≡ c.args.workers = ap (λ (inboxes : List Inbox). length inboxes) c.as_slice.ensures.value ∙ c.in_ok-inboxes.ensures.own_inboxes in
    subst (λ (n : ℕ). IsWork c.args.problem.now c.args.queries.now n c.args.budget c.in-Ok.work) all c.in-Ok.ensures.work

pub returns-in-Ok-clause-post : goal.returns-in-Ok-clause-post
returns-in-Ok-clause-post g c = some_inboxes c.args.workers c.as_slice.result.now _ c.as_slice.ensures.value c.in_ok-inboxes.ensures.own_inboxes c.in-Ok.ensures.whole

pub returns-in-Ok-clause-shared : goal.returns-in-Ok-clause-shared
returns-in-Ok-clause-shared g c =
    let all : length c.as_slice.result.now ≡ c.args.workers = ap (λ (inboxes : List Inbox). length inboxes) c.as_slice.ensures.value ∙ c.in_ok-inboxes.ensures.own_inboxes in
    subst (λ (n : ℕ). AllShared c.args.problem.now n c.in-Ok.work.records c.in-Ok.passes.items) all c.in-Ok.ensures.shared
