use Rattle.std.proofs.Common.{◌≡◌, ◌++◌, drop}
use Rattle.std.specs.Prelude.{flat_map}
use Rattle.gp_constraint.specs.ProgramOrder.{edge_to}
use Rattle.gp_constraint.proofs.program_order.edges.Given as goal

abbrev pub invariant-loop-f : goal.invariant-loop-f
invariant-loop-f l = l.edges ++ flat_map edge_to (drop l.f-index l.points) ≡ flat_map edge_to l.points
