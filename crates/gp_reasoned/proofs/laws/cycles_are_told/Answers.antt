use Rattle.gp_reasoned.proofs.Circling.{cycle_in, none_told}
use Rattle.gp_reasoned.proofs.laws.cycles_are_told.Goals as goal

pub returns : goal.returns
returns c = record {
  none = none_told c.cycles_are_forced.ensures c.forced_is_derived.ensures c.cycles_are_cycles.ensures c.cycle_events_go_round.ensures c.cycles_are_found.ensures;
  passing = cycle_in c.cycles_are_forced.ensures c.forced_is_derived.ensures c.cycles_are_cycles.ensures c.cycle_events_go_round.ensures c.cycles_are_found.ensures c.grounds_are_enough.ensures c.truths_are_numbered.ensures;
}
