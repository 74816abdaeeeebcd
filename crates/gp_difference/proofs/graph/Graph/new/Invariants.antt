use Rattle.std.proofs.Common.{◌≡◌, [], take}
use Rattle.gp_difference.proofs.graph.Graph.new.Given as goal

abbrev pub invariant-loop-edge : goal.invariant-loop-edge
invariant-loop-edge l = record {
  points : l.graph.points ≡ l.points;
  edges : l.graph.edges ≡ take l.edge-index l.edges;
  kept : l.graph.kept ≡ [];
}
