use Rattle.std.proofs.Common.{◌≡◌, ◌≤◌, ◌+◌, None, ◌++◌, replicate}
use Rattle.gp_sat.specs.declared.values.Truth.TheVariants.{Unknown}
use Rattle.gp_sat.proofs.values.add_free.Given as goal

abbrev pub invariant-loop : goal.invariant-loop
invariant-loop l = record {
  assigned : l.assigned.items ≡ l.fn.assigned.items ++ replicate l.counter None;
  truths : l.truths.items ≡ l.fn.truths.items ++ replicate l.counter Unknown;
  assigned_room : l.fn.assigned.len + l.count ≤ l.assigned.cap;
  truths_room : l.fn.truths.len + l.count ≤ l.truths.cap;
}
