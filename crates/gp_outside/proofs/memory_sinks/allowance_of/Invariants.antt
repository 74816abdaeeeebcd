use Rattle.std.proofs.Common.{◌≡◌, drop}
use Rattle.gp_outside.specs.MemorySinks.{allowance}
use Rattle.gp_outside.proofs.memory_sinks.allowance_of.Given as goal

abbrev pub invariant-loop-number : goal.invariant-loop-number
invariant-loop-number l = allowance (drop l.number-index l.failing) l.call ≡ allowance l.failing l.call
