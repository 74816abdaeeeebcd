use Rattle.std.proofs.Common.{◌≡◌, ℕ, ◌<◌, Some, List, length, refl, sym, subst, inl, arith}
use Rattle.std.specs.List.{slice_get}
use Rattle.std.proofs.lemmas.Option.{slice_get_read}
use Rattle.gp_derivation.proofs.Descending.{IsDescended, IsQueued, below_last, descended_all, descended_more, descended_none, last_queued, none_left}
use Rattle.gp_derivation.specs.Reach.{rests_on}
use Rattle.gp_derivation.proofs.reach.descend.Goals as goal

pub loop-place-init : goal.loop-place-init
loop-place-init c = subst (λ (ps : List ℕ). IsDescended c.args.base_clauses c.args.log.now c.args.hints.now (length c.args.log.now) ps c.queue.new.todo.keys) (sym c.new-places.ensures.items)
    (descended_none c.args.base_clauses c.args.log.now c.args.hints.now c.new-todo.result.keys c.queue.new.todo.keys c.new-todo.ensures.empty c.requires.within c.in_ok-queue.ensures)

pub bounds-log-bound : goal.bounds-log-bound
bounds-log-bound c =
    let among = last_queued _ c.pop_last.new.self.keys c.in-Some.place c.in-Some.ensures.removal in
    omega (arith, c.loop-place.invariant.below c.in-Some.place among, c.loop-place.invariant.within)

pub loop-place-smaller : goal.loop-place-smaller
loop-place-smaller c = c.loop-place.invariant.below c.in-Some.place (last_queued _ c.pop_last.new.self.keys c.in-Some.place c.in-Some.ensures.removal)

pub loop-place-preserved : goal.loop-place-preserved
loop-place-preserved c =
    let among = last_queued _ c.pop_last.new.self.keys c.in-Some.place c.in-Some.ensures.removal in
    let within : c.in-Some.place < length c.args.log.now = omega (arith, c.loop-place.invariant.below c.in-Some.place among, c.loop-place.invariant.within) in
    let got : slice_get c.args.log.now c.in-Some.place ≡ Some c.index-log-bound.result = slice_get_read c.args.log.now (length c.args.log.now) c.in-Some.place c.index-log-bound.result refl within c.index-log-bound.is in
    let queued : IsQueued c.args.base_clauses (rests_on c.index-log-bound.result.step c.index-log-bound.result.origin) c.pop_last.new.self.keys c.queue-in-Some.new.todo.keys =
    subst (λ (hs : List ℕ). IsQueued c.args.base_clauses hs c.pop_last.new.self.keys c.queue-in-Some.new.todo.keys) c.rests_on.ensures c.in_ok-queue-2.ensures in
    subst (λ (ps : List ℕ). IsDescended c.args.base_clauses c.args.log.now c.args.hints.now c.in-Some.place ps c.queue-in-Some.new.todo.keys) (sym c.in_ok-push.ensures.items)
    (descended_more c.args.base_clauses c.args.log.now c.args.hints.now c.loop-place.bound c.loop-place.places.items c.loop-place.todo.keys c.pop_last.new.self.keys c.queue-in-Some.new.todo.keys c.in-Some.place c.index-log-bound.result
    got (c.requires.entries c.in-Some.place c.index-log-bound.result got) c.in-Some.ensures.removal (below_last c.pop_last.new.self.keys c.in-Some.place c.in-Some.ensures.all_below) queued c.loop-place.invariant)

pub returns-clause-reached : goal.returns-clause-reached
returns-clause-reached c = λ place. (
  λ visited. c.loop-place.invariant.sound place (inl visited),
  descended_all c.args.base_clauses c.args.log.now c.args.hints.now c.loop-place.bound c.loop-place.places.items c.loop-place.todo.keys (none_left c.loop-place.todo.keys c.in_default.ensures.variant.1) c.loop-place.invariant place,
)
