-- One worker after another does its job.
use Rattle.std.proofs.Common.{◌≡◌, ap, sym, subst, List, length, arith, rules}
use Rattle.std.specs.Vec.Iter.{into_iter_items}
use Rattle.gp_workers.specs.declared.crew.Shared.{Shared}
use Rattle.gp_workers.specs.declared.crew.SharingJob.{SharingJob}
use Rattle.gp_workers.specs.SharedCrew.{AreHandedBack}
use Rattle.gp_workers.proofs.CrewJobs.{AreLeft, all_left, next_begins, one_more_back}
use Rattle.gp_workers.proofs.window.run_in_turn.Goals as goal

pub loop-sharing-init : goal.loop-sharing-init
loop-sharing-init g c =
    let load = c.args.load.now in
    let gives = c.into_iter-sharing-iterator.ensures.into_iter_gives in
    let none : length c.new-crew.result.items ≡ 0 = ap (λ (crew : List Shared). length crew) c.new-crew.ensures.items in
    let all : length (into_iter_items c.into_iter-sharing-iterator.result) ≡ length c.args.jobs.items = ap (λ (jobs : List SharingJob). length jobs) gives.0 in
    record {
      counted = search rules;
      in_all = omega (arith, none, all, c.requires.few.1);
      left = subst (AreLeft load.tickets.now load.problem.now c.args.inboxes.now (length c.new-crew.result.items)) (sym gives.0)
          (all_left load.tickets.now load.problem.now c.args.inboxes.now (length c.new-crew.result.items) c.args.jobs.items none c.requires.jobs);
      back = subst (AreHandedBack load.tickets.now load.problem.now load.queries.now load.budget c.args.inboxes.now 0) (sym c.new-crew.ensures.items) tt;
    }

pub work_beside-requires-clause-number : goal.work_beside-requires-clause-number
work_beside-requires-clause-number g c =
    let load = c.args.load.now in
    let begins = next_begins load.tickets.now load.problem.now c.args.inboxes.now (length c.loop-sharing.crew.items) (into_iter_items c.loop-sharing.sharing-iterator) c.in-Some.sharing (into_iter_items c.next.new.self) c.loop-sharing.invariant.left c.in-Some.ensures.steps.0 c.loop-sharing.invariant.in_all in
    (begins.0, begins.1)

pub work_beside-requires-clause-job : goal.work_beside-requires-clause-job
work_beside-requires-clause-job g c =
    let load = c.args.load.now in
    (next_begins load.tickets.now load.problem.now c.args.inboxes.now (length c.loop-sharing.crew.items) (into_iter_items c.loop-sharing.sharing-iterator) c.in-Some.sharing (into_iter_items c.next.new.self) c.loop-sharing.invariant.left c.in-Some.ensures.steps.0 c.loop-sharing.invariant.in_all).2

pub loop-sharing-preserved : goal.loop-sharing-preserved
loop-sharing-preserved g c =
    let load = c.args.load.now in
    let steps = c.in-Some.ensures.steps in
    let fewer = ap (λ (jobs : List SharingJob). length jobs) steps.0 in
    let more = one_more_back load.tickets.now load.problem.now load.queries.now load.budget c.args.inboxes.now c.loop-sharing.crew.items c.push_back.new.self.items c.in_ok-shared.shared
    (into_iter_items c.loop-sharing.sharing-iterator) c.in-Some.sharing (into_iter_items c.next.new.self) steps.0 c.in_ok-push_back.ensures.items c.loop-sharing.invariant.left c.loop-sharing.invariant.back c.in_ok-shared.ensures.done c.in_ok-shared.ensures.shared in
    record {
      counted = omega (arith, c.loop-sharing.invariant.counted, steps.1, fewer);
      in_all = omega (arith, c.loop-sharing.invariant.in_all, more.0, fewer);
      left = more.1;
      back = more.2;
    }
