use Rattle.std.proofs.Common.{◌≡◌, drop, length}
use Rattle.std.specs.List.{list_all}
use Rattle.gp_property.specs.Atoms.{atom_count}
use Rattle.gp_instance.specs.Matches.{groups_of, stands_together}
use Rattle.gp_instance.proofs.matching.stand_together.Given as goal

abbrev pub invariant-loop-step : goal.invariant-loop-step
invariant-loop-step l = record {
  left : length l.rest ≡ atom_count (drop l.step-index l.pattern);
  walk : list_all (λ group. stands_together group l.schedule) (groups_of (drop l.step-index l.pattern) l.rest) ≡ list_all (λ group. stands_together group l.schedule) (groups_of l.pattern l.events);
}
