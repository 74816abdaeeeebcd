use Rattle.std.proofs.Common.{◌≡◌, [], All, length}
use Rattle.gp_workers.proofs.inboxes.empty_columns.Given as goal

abbrev pub invariant-loop : goal.invariant-loop
invariant-loop l = record {
  len : length l.columns.items ≡ l.counter;
  empty : All (λ column. column.items ≡ []) l.columns.items;
}
