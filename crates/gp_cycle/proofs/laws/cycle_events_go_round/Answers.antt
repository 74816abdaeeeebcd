use Rattle.gp_cycle.proofs.Linked.{events_round}
use Rattle.gp_cycle.proofs.laws.cycle_events_go_round.Goals as goal

pub returns : goal.returns
returns c = events_round
