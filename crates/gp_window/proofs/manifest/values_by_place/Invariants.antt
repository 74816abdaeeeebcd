use Rattle.std.proofs.Common.{◌≡◌, [], drop}
use Rattle.gp_window.specs.Manifest.{values_from}
use Rattle.gp_window.proofs.manifest.values_by_place.Given as goal

abbrev pub invariant-loop-line : goal.invariant-loop-line
invariant-loop-line l = values_from l.epochs l.values (drop l.line-index l.lines) ≡ values_from l.epochs [] l.lines
