use Rattle.gp_resume.proofs.Holding.{what_is_kept_holds}
use Rattle.gp_resume.proofs.laws.kept_holds.Goals as goal

pub returns : goal.returns
returns c = what_is_kept_holds c.refutations_are_decided.ensures c.replay_means_feasible.ensures
