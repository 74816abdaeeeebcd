use Rattle.std.proofs.Common.{◌≡◌, ◌++◌, drop, filter}
use Rattle.gp_cycle.specs.Levels.{is_next}
use Rattle.gp_cycle.proofs.levels.Levels.nearer.Given as goal

abbrev pub invariant-loop-order : goal.invariant-loop-order
invariant-loop-order l = l.level ++ filter (is_next l.self) (drop l.order-index l.self.rest) ≡ filter (is_next l.self) l.self.rest
