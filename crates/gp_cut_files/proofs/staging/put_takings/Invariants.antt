use Rattle.std.proofs.Common.{◌≡◌, ◌++◌, map}
use Rattle.gp_cut.specs.Cut.{taking}
use Rattle.gp_cut_files.proofs.staging.put_takings.Given as goal

abbrev pub invariant-loop-lock : goal.invariant-loop-lock
invariant-loop-lock l = l.events ++ map taking l.lock-iterator ≡ l.initial.events ++ map taking l.held
