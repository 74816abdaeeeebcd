use Rattle.std.proofs.Common.{◌≡◌}
use Rattle.gp_stuck.specs.Noted.{with_all_own}
use Rattle.gp_stuck.proofs.noting.put_all_own.Given as goal

abbrev pub invariant-loop-place : goal.invariant-loop-place
invariant-loop-place l = with_all_own l.thread l.held l.place-iterator ≡ with_all_own l.thread l.initial.held l.holdings
