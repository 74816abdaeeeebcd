use Rattle.gp_notify.proofs.Raising.{numbers_lift}
use Rattle.gp_notify.proofs.laws.numbers_are_lifted.Goals as goal

pub returns : goal.returns
returns c = numbers_lift
