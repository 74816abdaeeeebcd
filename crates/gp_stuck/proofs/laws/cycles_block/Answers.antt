use Rattle.gp_stuck.proofs.Blocked.{cycles_block}
use Rattle.gp_stuck.proofs.laws.cycles_block.Goals as goal

pub returns : goal.returns
returns c = cycles_block c.holds_are_traced.ensures c.threads_are_started.ensures
