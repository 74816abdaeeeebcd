use Rattle.std.proofs.Common.{◌≡◌, [], drop, length}
use Rattle.gp_property.specs.Atoms.{atom_count}
use Rattle.gp_instance.specs.Matches.{follow, groups_of}
use Rattle.gp_instance.proofs.matching.are_in_order.Given as goal

abbrev pub invariant-loop-step : goal.invariant-loop-step
invariant-loop-step l = record {
  left : length l.rest ≡ atom_count (drop l.step-index l.pattern);
  walk : follow l.schedule l.before (groups_of (drop l.step-index l.pattern) l.rest) ≡ follow l.schedule [] (groups_of l.pattern l.events);
}
