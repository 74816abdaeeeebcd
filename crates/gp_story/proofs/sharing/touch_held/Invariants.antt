-- The locks that are touched, and then those that are left, are all.
use Rattle.std.proofs.Common.{◌≡◌}
use Rattle.gp_window.specs.WindowForm.{held_at_start}
use Rattle.gp_story.specs.Touched.{with_holdings}
use Rattle.gp_story.proofs.sharing.touch_held.Given as goal

abbrev pub invariant-loop-place : goal.invariant-loop-place
invariant-loop-place l = with_holdings l.locks l.place-iterator ≡ with_holdings l.initial.locks (held_at_start l.window)
