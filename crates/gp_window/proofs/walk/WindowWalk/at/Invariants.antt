use Rattle.std.proofs.Common.{◌≡◌}
use Rattle.gp_window.proofs.walk.WindowWalk.at.Given as goal

abbrev pub invariant-loop-number : goal.invariant-loop-number
invariant-loop-number l = (l.walk.recording ≡ l.recording) × (l.walk.number ≡ l.number)
