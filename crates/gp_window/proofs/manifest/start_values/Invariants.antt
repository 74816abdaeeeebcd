use Rattle.std.proofs.Common.{◌≡◌, ◌++◌, drop, map}
use Rattle.gp_window.specs.Manifest.{start_value}
use Rattle.gp_window.proofs.manifest.start_values.Given as goal

abbrev pub invariant-loop-entry : goal.invariant-loop-entry
invariant-loop-entry l = l.values ++ map start_value (drop l.entry-index l.entries) ≡ map start_value l.entries
