use Rattle.std.proofs.Common.{◌≡◌, ◌++◌, drop, map}
use Rattle.gp_witness.specs.declared.executed.Placed.{Placed}
use Rattle.gp_witness.proofs.executed.ids_of.Given as goal

abbrev pub invariant-loop-event : goal.invariant-loop-event
invariant-loop-event l =
    l.ids ++ map (λ (event : Placed). event.id) (drop l.event-index l.placed) ≡ map (λ (event : Placed). event.id) l.placed
