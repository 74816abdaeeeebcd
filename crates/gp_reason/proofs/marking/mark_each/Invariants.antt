-- What is marked, or is cited by a hint that is left, is what was marked or is cited.
use Rattle.std.proofs.Common.{◌≡◌, ℕ, drop}
use Rattle.std.specs.Prelude.{◌&&◌, ◌||◌, ◌==◌, nat_lt}
use Rattle.std.specs.List.{list_any}
use Rattle.gp_reason.specs.Marks.{is_marked}
use Rattle.gp_reason.proofs.marking.mark_each.Given as goal

abbrev pub invariant-loop-hint : goal.invariant-loop-hint
invariant-loop-hint l = (other : ℕ) → (is_marked l.marks other || (list_any (λ hint. hint == other) (drop l.hint-index l.hints) && nat_lt other l.number))
    ≡ (is_marked l.fn.marks other || (list_any (λ hint. hint == other) l.hints && nat_lt other l.number))
