use Rattle.gp_notify.proofs.Examples.{examples}
use Rattle.gp_notify.proofs.laws.signals_examples.Goals as goal

pub returns : goal.returns
returns c = examples
