use Rattle.gp_notify.proofs.Numbers.{lowered_answers}
use Rattle.gp_notify.proofs.laws.answers_are_lowered.Goals as goal

pub returns : goal.returns
returns c = lowered_answers c.numbers_are_lifted.ensures c.problems_are_valid.ensures
