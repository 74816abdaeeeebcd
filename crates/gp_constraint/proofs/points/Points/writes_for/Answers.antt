use Rattle.gp_constraint.proofs.Tabled.{no_writes}
use Rattle.gp_constraint.proofs.points.Points.writes_for.Goals as goal

pub returns-in_default : goal.returns-in_default
returns-in_default c = no_writes c.args.self.now c.args.r.now.action c.in_default.not-Read
