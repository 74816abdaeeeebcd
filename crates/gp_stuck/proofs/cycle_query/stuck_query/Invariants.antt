use Rattle.std.proofs.Common.{◌≡◌, ◌++◌, drop}
use Rattle.std.specs.Prelude.{flat_map}
use Rattle.gp_stuck.specs.StuckQuery.{stop_lits}
use Rattle.gp_stuck.proofs.cycle_query.stuck_query.Given as goal

abbrev pub invariant-loop-id : goal.invariant-loop-id
invariant-loop-id l = record {
  walk : l.assumed ++ flat_map (stop_lits l.encoded) (drop l.id-index l.id-items) ≡ flat_map (stop_lits l.encoded) l.cycle.events;
}
