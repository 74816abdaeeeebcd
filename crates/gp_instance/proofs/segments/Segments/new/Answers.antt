-- A window is small, and the ends are those of its segments.
use Rattle.gp_instance.proofs.Small.{small_window}
use Rattle.gp_instance.proofs.segments.Segments.new.Goals as goal

pub invariant_of-result : goal.invariant_of-result
invariant_of-result c = (rw c.segments-segments.ensures.value (small_window c.args.window.now c.segments-segments.ensures.window), c.in_ok-ends.ensures)
