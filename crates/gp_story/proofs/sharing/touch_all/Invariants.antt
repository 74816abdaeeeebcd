-- What the threads so far touch, and then those that are left, is all.
use Rattle.std.proofs.Common.{◌≡◌, ◌+◌, ◌-◌, length}
use Rattle.gp_window.specs.WindowForm.{numbers_from}
use Rattle.gp_story.specs.Deeds.{variable_of}
use Rattle.gp_story.specs.Touched.{lock_used, with_threads}
use Rattle.gp_story.proofs.sharing.touch_all.Given as goal

abbrev pub invariant-loop-thread : goal.invariant-loop-thread
invariant-loop-thread l = record {
  variables : with_threads variable_of l.window l.variables (numbers_from l.thread (length l.window.segments + 1 - l.thread))
      ≡ with_threads variable_of l.window l.initial.variables (numbers_from 1 (length l.window.segments));
  locks : with_threads lock_used l.window l.locks (numbers_from l.thread (length l.window.segments + 1 - l.thread))
      ≡ with_threads lock_used l.window l.initial.locks (numbers_from 1 (length l.window.segments));
}
