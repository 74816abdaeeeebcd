use Rattle.std.proofs.Common.{arith}
use Rattle.std.specs.Vec.{vec_capacity}
use Rattle.gp_sat.proofs.Consisting.{consistent_new}
use Rattle.gp_sat.proofs.kernel.Kernel.new.Goals as goal

pub invariant_of-result : goal.invariant_of-result
invariant_of-result c = consistent_new c.in_ok-values.values c.in_ok-trail.trail.items c.new-3.result c.in_ok-queue.queue c.args.variables c.in_ok-starts.starts.items c.first-place.result (vec_capacity c.in_ok-trail.trail) (vec_capacity c.in_ok-starts.starts)
    c.in_ok-values.ensures c.in_ok-trail.ensures.items c.new-3.ensures c.in_ok-queue.ensures c.in_ok-starts.ensures.items c.first-place.ensures.first (omega (arith, c.in_ok-trail.ensures.capacity)) (omega (arith, c.in_ok-starts.ensures.capacity)) c.ranges.variables.fits
