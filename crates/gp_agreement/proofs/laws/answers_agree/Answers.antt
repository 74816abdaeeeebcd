use Rattle.gp_agreement.proofs.Agreement.{alike_agree}
use Rattle.gp_agreement.proofs.laws.answers_agree.Goals as goal

pub returns : goal.returns
returns g c = alike_agree (g.Q.Question.form c.args.question.now) (g.R.Question.form c.args.alike.now)
