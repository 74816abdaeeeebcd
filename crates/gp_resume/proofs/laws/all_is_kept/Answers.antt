use Rattle.gp_resume.proofs.Holding.{what_holds_is_kept}
use Rattle.gp_resume.proofs.laws.all_is_kept.Goals as goal

pub returns : goal.returns
returns c = what_holds_is_kept c.refutations_are_decided.ensures c.replay_means_feasible.ensures
