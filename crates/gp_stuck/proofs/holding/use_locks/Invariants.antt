use Rattle.std.proofs.Common.{ℕ, ◌≡◌, List, take}
use Rattle.gp_trace.specs.LockUse.{mode_held}
use Rattle.gp_window.specs.Events.{segment_of}
use Rattle.gp_window.specs.Formed.{mode_at_start}
use Rattle.gp_window.specs.Modes.{mode_after}
use Rattle.gp_stuck.proofs.holding.use_locks.Given as goal

abbrev pub invariant-loop-index : goal.invariant-loop-index
invariant-loop-index l = (lock : List ℕ) → mode_held l.held lock ≡ mode_after lock (mode_at_start l.window l.thread lock) (take l.index (segment_of l.window l.thread))
