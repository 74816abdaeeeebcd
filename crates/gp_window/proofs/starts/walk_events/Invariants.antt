use Rattle.std.proofs.Common.{◌≡◌, drop}
use Rattle.gp_window.specs.Starts.{after_events}
use Rattle.gp_window.proofs.starts.walk_events.Given as goal

abbrev pub invariant-loop-event : goal.invariant-loop-event
invariant-loop-event l =
    after_events l.threads l.roots l.started (drop l.event-index l.events) ≡ after_events l.threads l.roots l.initial.started l.events
