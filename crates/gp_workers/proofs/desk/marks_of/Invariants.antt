use Rattle.std.proofs.Common.{◌≡◌, replicate}
use Rattle.gp_workers.proofs.desk.marks_of.Given as goal

abbrev pub invariant-loop : goal.invariant-loop
invariant-loop l = l.marks.items ≡ replicate l.counter l.mark
