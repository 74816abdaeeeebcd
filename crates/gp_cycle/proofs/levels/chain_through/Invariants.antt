-- What was told, and the chain on through the levels that are left, is the whole chain.
use Rattle.std.proofs.Common.{◌≡◌, ◌≤◌, ◌++◌, length, reverse, take}
use Rattle.std.specs.Option.{option_map}
use Rattle.gp_cycle.specs.Levels.{chain_through}
use Rattle.gp_cycle.proofs.levels.chain_through.Given as goal

abbrev pub invariant-loop-place : goal.invariant-loop-place
invariant-loop-place l = record {
  within : l.place ≤ length l.levels;
  leads : option_map (λ rest. l.chain ++ rest) (chain_through l.goal (reverse (take l.place l.levels)) l.last) ≡ chain_through l.fn.goal (reverse l.levels) l.fn.order;
}
