use Rattle.std.proofs.Common.{◌≡◌, ◌++◌, ◌+◌, ◌-◌}
use Rattle.std.specs.Prelude.{flat_map}
use Rattle.gp_window.specs.WindowForm.{numbers_from}
use Rattle.gp_bridge_rows.specs.Ends.{end_in, ends_of}
use Rattle.gp_bridge_rows.proofs.listing.ends_of.Given as goal

abbrev pub invariant-loop-thread : goal.invariant-loop-thread
invariant-loop-thread l =
    l.ends ++ flat_map (end_in l.window l.number) (numbers_from l.thread (l.threads + 1 - l.thread)) ≡ ends_of l.window l.number
