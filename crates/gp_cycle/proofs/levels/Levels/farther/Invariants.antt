use Rattle.std.proofs.Common.{◌≡◌, ◌++◌, drop, filter, not}
use Rattle.gp_cycle.specs.Levels.{is_next}
use Rattle.gp_cycle.proofs.levels.Levels.farther.Given as goal

abbrev pub invariant-loop-order : goal.invariant-loop-order
invariant-loop-order l = l.rest ++ filter (λ order. not (is_next l.self order)) (drop l.order-index l.self.rest) ≡ filter (λ order. not (is_next l.self order)) l.self.rest
