use Rattle.gp_reason.proofs.Circled.{cycle_forced}
use Rattle.gp_reason.proofs.laws.cycles_are_forced.Goals as goal

pub returns : goal.returns
returns c = cycle_forced c.forced_is_derived.ensures c.cycles_are_cycles.ensures c.cycle_events_go_round.ensures
