use Rattle.gp_constraint.proofs.PointsFirst.{points_first}
use Rattle.gp_constraint.proofs.numbering_laws.points_come_first.Goals as goal

pub returns : goal.returns
returns c = points_first
