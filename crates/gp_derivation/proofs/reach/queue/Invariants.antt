use Rattle.std.proofs.Common.{take}
use Rattle.gp_derivation.proofs.Descending.{IsQueued}
use Rattle.gp_derivation.proofs.reach.queue.Given as goal

abbrev pub invariant-loop-hint : goal.invariant-loop-hint
invariant-loop-hint l = IsQueued l.base_clauses (take l.hint-index l.hints) l.initial.todo.keys l.todo.keys
