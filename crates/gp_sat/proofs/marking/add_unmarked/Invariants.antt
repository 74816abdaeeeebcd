use Rattle.std.proofs.Common.{◌≡◌, ℕ, ◌+◌, ◌≤◌, length}
use Rattle.gp_sat.specs.Marking.{IsMarked}
use Rattle.gp_sat.proofs.marking.add_unmarked.Given as goal

abbrev pub invariant-loop : goal.invariant-loop
invariant-loop l = record {
  size : length l.marks.items ≡ length l.initial.marks.items + l.counter;
  only : (v : ℕ) → IsMarked l.marks.items v → IsMarked l.initial.marks.items v;
  room : l.fn.marks.len + l.count ≤ l.marks.cap;
}
