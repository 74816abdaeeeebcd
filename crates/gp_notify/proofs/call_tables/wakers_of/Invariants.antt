use Rattle.std.proofs.Common.{◌≡◌, ℕ, List, take}
use Rattle.gp_constraint.specs.Tables.{entry_at}
use Rattle.gp_notify.specs.CallTables.{wakes_on}
use Rattle.gp_notify.proofs.call_tables.wakers_of.Given as goal

abbrev pub invariant-loop-p : goal.invariant-loop-p
invariant-loop-p l = (condition : List ℕ) → entry_at l.wakers condition ≡ wakes_on l.window (take l.p-index l.points) condition
