use Rattle.std.proofs.Common.{◌≡◌, ◌+◌, ◌++◌, drop, length}
use Rattle.gp_bridge_rows.specs.Happens.{happens}
use Rattle.gp_bridge_rows.proofs.happens.add_all.Given as goal

abbrev pub invariant-loop-p : goal.invariant-loop-p
invariant-loop-p l = record {
  adds : l.into.clauses ++ happens l.event (drop l.p-index l.points) ≡ l.initial.into.clauses ++ happens l.event l.points;
  lengths : length l.into.clauses + length (happens l.event (drop l.p-index l.points)) ≡ length l.initial.into.clauses + length (happens l.event l.points);
  before : l.into.before ≡ l.initial.into.before;
}
