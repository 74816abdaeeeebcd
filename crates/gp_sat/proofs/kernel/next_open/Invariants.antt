use Rattle.std.proofs.Common.{◌≤◌, None, length, slice_index_or}
use Rattle.gp_sat.specs.Deciding.{IsPlaced}
use Rattle.gp_sat.proofs.kernel.next_open.Given as goal

abbrev pub invariant-loop : goal.invariant-loop
invariant-loop l = record {
  placed : IsPlaced (λ v. slice_index_or l.values v None) l.used l.queue l.place;
  far : l.counter ≤ length placed.front;
}
