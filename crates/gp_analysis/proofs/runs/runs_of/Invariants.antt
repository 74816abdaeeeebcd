use Rattle.std.proofs.Common.{◌≡◌, length}
use Rattle.gp_analysis.proofs.Parted.{IsParted}
use Rattle.gp_analysis.proofs.runs.runs_of.Given as goal

abbrev pub invariant-loop-made : goal.invariant-loop-made
invariant-loop-made l = record {
  made : length l.runs.items ≡ l.made;
  parted : IsParted l.epochs l.count l.first l.runs.items;
}
