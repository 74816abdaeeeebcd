use Rattle.std.proofs.Common.{ℕ, ◌<◌, ◌≤◌, List, ◌++◌, length}
use Rattle.gp_queue.specs.Order.{numbers_between}
use Rattle.gp_queue.specs.Links.{IsRing}
use Rattle.gp_queue.proofs.links.link_rest.Given as goal

-- the numbers before this one stand behind the others, whatever the order was
abbrev pub invariant-loop-number : goal.invariant-loop-number
invariant-loop-number l =
    (l.first ≤ l.number) × (l.number ≤ l.n) × (l.n < length l.next) × ((order : List ℕ) → IsRing l.fn.next l.fn.prev l.first order →
    IsRing l.next l.prev l.number (order ++ numbers_between l.first l.number))
