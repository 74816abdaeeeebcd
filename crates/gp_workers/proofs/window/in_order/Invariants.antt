use Rattle.std.proofs.Common.{◌≡◌, ◌++◌, Ok, map, vec_len}
use Rattle.gp_workers.proofs.window.in_order.Given as goal

abbrev pub decreases-loop-shared : goal.decreases-loop-shared
decreases-loop-shared l = vec_len l.handed

abbrev pub invariant-loop-shared : goal.invariant-loop-shared
invariant-loop-shared l = l.initial.handed.items ≡ l.handed.items ++ map Ok l.crew.items
