use Rattle.std.proofs.Common.{◌≡◌, ◌++◌, drop, map}
use Rattle.gp_trace.specs.declared.event.Event.TheVariants.{Begin}
use Rattle.gp_cut_files.proofs.staging.put_beginnings.Given as goal

abbrev pub invariant-loop-region : goal.invariant-loop-region
invariant-loop-region l = l.events ++ map Begin (drop l.region-index l.begun) ≡ l.initial.events ++ map Begin l.begun
