use Rattle.std.proofs.Common.{◌≡◌, ℕ, ◌-◌, ◌<◌, List, ◌++◌, length, slice_get, IfSome}
use Rattle.gp_solver_rows.proofs.queue.numbers.Given as goal

-- what is listed stands before the rest of the order, at whose front the walk is
abbrev pub invariant-loop-at : goal.invariant-loop-at
invariant-loop-at l =
    (rest : List ℕ) × (l.queue ≡ l.all.items ++ rest) × (l.at ≡ slice_get rest 0) × IfSome l.at (λ i. i < length l.queue)

abbrev pub decreases-loop-at : goal.decreases-loop-at
decreases-loop-at l = length l.queue - length l.all.items
