use Rattle.std.proofs.Common.{◌≡◌, drop}
use Rattle.std.specs.Prelude.{find, is_some, not}
use Rattle.gp_notify.specs.Signals.{sleep_of}
use Rattle.gp_notify.proofs.wake_sleeps.unpaired.Given as goal

abbrev pub invariant-loop-w : goal.invariant-loop-w
invariant-loop-w l = find (λ w. not (is_some (sleep_of l.window w))) (drop l.w-index l.wakes) ≡ find (λ w. not (is_some (sleep_of l.window w))) l.wakes
