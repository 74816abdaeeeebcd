use Rattle.gp_agreement.proofs.Enough.{enough_decided}
use Rattle.gp_agreement.proofs.laws.enough_decides.Goals as goal

pub returns : goal.returns
returns g c = enough_decided (g.Q.Question.form c.args.question.now)
