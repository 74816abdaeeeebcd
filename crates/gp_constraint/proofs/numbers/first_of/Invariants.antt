use Rattle.std.proofs.Common.{◌≡◌, ◌+◌, ◌-◌, ◌≤◌, drop}
use Rattle.gp_constraint.specs.Points.{first_of}
use Rattle.gp_constraint.proofs.numbers.first_of.Given as goal

abbrev pub invariant-loop-place : goal.invariant-loop-place
invariant-loop-place l = record {
  sum : l.sum + first_of (drop l.place l.sizes) (l.threads - l.place) ≡ first_of l.sizes l.threads;
  within : l.place ≤ l.threads;
}
