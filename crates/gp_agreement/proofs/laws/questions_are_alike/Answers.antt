use Rattle.gp_agreement.proofs.Questions.{questions_alike}
use Rattle.gp_agreement.proofs.laws.questions_are_alike.Goals as goal

pub returns : goal.returns
returns c = questions_alike
