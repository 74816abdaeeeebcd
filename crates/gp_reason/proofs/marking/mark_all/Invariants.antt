-- What was marked is, and the numbers so far are.
use Rattle.std.proofs.Common.{◌≡◌, ℕ}
use Rattle.std.specs.Prelude.{◌&&◌, ◌||◌, nat_le, nat_lt}
use Rattle.gp_reason.specs.Marks.{is_marked}
use Rattle.gp_reason.proofs.marking.mark_all.Given as goal

abbrev pub invariant-loop-other : goal.invariant-loop-other
invariant-loop-other l = (one : ℕ) → is_marked l.marks one ≡ (is_marked l.fn.marks one || (nat_le l.first one && nat_lt one l.other))
