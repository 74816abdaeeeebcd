use Rattle.std.proofs.Common.{ℕ, ◌≡◌, List, take}
use Rattle.gp_trace.specs.LockUse.{mode_held}
use Rattle.gp_window.specs.Formed.{mode_at_start}
use Rattle.gp_window.specs.Modes.{mode_after}
use Rattle.gp_instance.specs.Instances.{ids_in}
use Rattle.gp_stuck.specs.Noted.{NotesMore}
use Rattle.gp_stuck.proofs.noting.note_segment.Given as goal

abbrev pub invariant-loop-index : goal.invariant-loop-index
invariant-loop-index l = record {
  held : (lock : List ℕ) → mode_held l.held lock ≡ mode_after lock (mode_at_start l.window l.thread lock) (take l.index l.segment);
  noted : NotesMore l.window (ids_in l.thread 0 (take l.index l.segment)) l.initial.starts l.initial.holders l.starts l.holders;
}
