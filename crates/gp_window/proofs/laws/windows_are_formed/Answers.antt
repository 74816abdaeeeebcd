use Rattle.gp_window.proofs.Formed.{window_is_formed}
use Rattle.gp_window.proofs.laws.windows_are_formed.Goals as goal

pub returns : goal.returns
returns c = window_is_formed
