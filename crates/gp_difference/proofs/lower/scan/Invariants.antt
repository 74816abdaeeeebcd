use Rattle.std.proofs.Common.{ℕ, ◌≤◌, length}
use Rattle.gp_difference.specs.Placement.{Stays}
use Rattle.gp_difference.specs.Lower.{Scanning}
use Rattle.gp_difference.specs.Links.{IsLatest}
use Rattle.gp_difference.proofs.lower.scan.Given as goal

abbrev pub invariant-loop-left : goal.invariant-loop-left
invariant-loop-left l = record {
  stays : Stays l.initial.run l.run;
  latest : (count : ℕ) × (count ≤ length l.bounds.bounds) × IsLatest l.bounds.bounds count l.point l.left;
  some : (done : ℕ) × Scanning l.bounds.bounds l.new l.run done l.point l.left;
  scan : (done : ℕ) → Scanning l.bounds.bounds l.new l.initial.run done l.point (length l.bounds.bounds) → Scanning l.bounds.bounds l.new l.run done l.point l.left;
}

abbrev pub decreases-loop-left : goal.decreases-loop-left
decreases-loop-left l = l.left
