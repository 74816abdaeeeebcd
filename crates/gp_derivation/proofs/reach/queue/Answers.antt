use Rattle.std.proofs.Common.{ℕ, List, subst, take_all}
use Rattle.gp_derivation.proofs.Descending.{IsQueued, queued_none, queued_more}
use Rattle.gp_derivation.proofs.reach.queue.Goals as goal

pub loop-hint-init : goal.loop-hint-init
loop-hint-init c = queued_none c.args.base_clauses c.args.todo.now.keys

pub loop-hint-preserved : goal.loop-hint-preserved
loop-hint-preserved c = queued_more c.args.base_clauses c.args.hints.now c.args.todo.now.keys c.loop-hint.todo.keys c.queue_one.new.todo.keys c.loop-hint.hint-index c.loop-hint-test.true c.loop-hint.invariant c.in_ok-queue_one.ensures

pub returns : goal.returns
returns c = subst (λ (hs : List ℕ). IsQueued c.args.base_clauses hs c.args.todo.now.keys c.loop-hint.todo.keys) (take_all c.loop-hint.hint-index c.args.hints.now c.loop-hint-test.false) c.loop-hint.invariant
