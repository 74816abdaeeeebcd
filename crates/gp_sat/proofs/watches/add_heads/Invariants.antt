use Rattle.std.proofs.Common.{◌≡◌, ◌≤◌, ◌+◌, ◌++◌, replicate}
use Rattle.gp_sat.proofs.watches.add_heads.Given as goal

abbrev pub invariant-loop : goal.invariant-loop
invariant-loop l = record {
  items : l.heads.items ≡ l.fn.heads.items ++ replicate l.counter 0;
  room : l.fn.heads.len + l.count ≤ l.heads.cap;
  same : l.heads.cap ≡ l.fn.heads.cap;
}
