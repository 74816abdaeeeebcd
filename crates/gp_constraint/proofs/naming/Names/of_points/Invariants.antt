use Rattle.std.proofs.Common.{◌≡◌}
use Rattle.gp_constraint.specs.Numbering.{point_names}
use Rattle.gp_constraint.proofs.naming.Names.of_points.Given as goal

abbrev pub invariant-loop-p : goal.invariant-loop-p
invariant-loop-p l = l.names ≡ point_names l.p
