use Rattle.std.proofs.Common.{arith}
use Rattle.gp_derivation.proofs.Descending.{last_queued, none_left}
use Rattle.gp_derivation.proofs.Narrowing.{narrowed_all, narrowed_more, narrowed_none, next_place, none_from_here}
use Rattle.gp_derivation.proofs.reach.descend_within.Goals as goal

pub loop-place-init : goal.loop-place-init
loop-place-init c =
    narrowed_none c.args.problem.now c.args.log.now c.args.last.now c.len-base_clauses.result c.as_slice.result.now c.new-todo.result.keys c.new-places.result.items c.queue.new.todo.keys c.args.room
    c.len-base_clauses.ensures c.as_slice.ensures c.new-todo.ensures.empty c.new-places.ensures.items c.requires.numbered c.requires.left c.in_ok-queue.ensures

pub bounds-log-bound : goal.bounds-log-bound
bounds-log-bound c =
    let among = last_queued _ c.pop_last.new.self.keys c.in-Some.place c.in-Some.ensures.removal in
    omega (arith, c.loop-place.invariant.descended.below c.in-Some.place among, c.loop-place.invariant.descended.within)

pub loop-place-smaller : goal.loop-place-smaller
loop-place-smaller c = c.loop-place.invariant.descended.below c.in-Some.place (last_queued _ c.pop_last.new.self.keys c.in-Some.place c.in-Some.ensures.removal)

pub returns-in_default-after_entry : goal.returns-in_default-after_entry
returns-in_default-after_entry c =
    let next = next_place c.args.problem.now c.args.log.now c.args.last.now _ c.pop_last.new.self.keys c.in-Some.place c.index-log-bound.result _ c.requires.numbered c.in-Some.ensures.removal
    c.in-Some.ensures.all_below c.loop-place.invariant.descended.below c.loop-place.invariant.descended.within c.index-log-bound.is in
    none_from_here c.args.problem.now c.args.log.now c.args.last.now c.loop-place.bound c.loop-place.places.items c.loop-place.todo.keys c.pop_last.new.self.keys c.loop-place.room c.in-Some.place c.index-log-bound.result c.len.result
    c.len.ensures next c.loop-place.invariant c.in_default-after_entry.ensures

pub loop-place-preserved : goal.loop-place-preserved
loop-place-preserved c =
    let next = next_place c.args.problem.now c.args.log.now c.args.last.now _ c.pop_last.new.self.keys c.in-Some.place c.index-log-bound.result _ c.requires.numbered c.in-Some.ensures.removal
    c.in-Some.ensures.all_below c.loop-place.invariant.descended.below c.loop-place.invariant.descended.within c.index-log-bound.is in
    narrowed_more c.args.problem.now c.args.log.now c.args.last.now c.loop-place.bound c.loop-place.places.items c.loop-place.todo.keys c.pop_last.new.self.keys c.loop-place.room c.in-Some.place c.index-log-bound.result c.len.result
    c.len-base_clauses.result c.rests_on.result.now c.push.new.self.items c.queue-in-Some.new.todo.keys c.in-Some-after_entry.left c.len.ensures c.len-base_clauses.ensures c.rests_on.ensures c.in_ok-push.ensures.items next
    c.in-Some-after_entry.ensures c.in_ok-queue-2.ensures c.loop-place.invariant

pub returns : goal.returns
returns c =
    narrowed_all c.args.problem.now c.args.log.now c.args.last.now c.loop-place.bound c.loop-place.places.items c.loop-place.todo.keys c.turned.result.items c.loop-place.room (none_left c.loop-place.todo.keys c.in_default.ensures.variant.1)
    c.loop-place.invariant c.turned.ensures.rising c.turned.ensures.same
