use Rattle.std.proofs.Common.{◌+◌, arith}
use Rattle.gp_constraint.proofs.PointNames.{point_more}
use Rattle.gp_constraint.proofs.naming.Names.of_points.Goals as goal

pub loop-p-preserved : goal.loop-p-preserved
loop-p-preserved c = point_more c.loop-p.p (c.loop-p.p + 1) c.loop-p.names c.number.new.self (omega arith) c.loop-p.invariant c.in_ok-number.ensures.names
