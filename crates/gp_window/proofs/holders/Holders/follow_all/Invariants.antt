use Rattle.std.proofs.Common.{◌≡◌, drop}
use Rattle.gp_window.specs.Holders.{held_after_events}
use Rattle.gp_window.proofs.holders.Holders.follow_all.Given as goal

abbrev pub invariant-loop-event : goal.invariant-loop-event
invariant-loop-event l =
    held_after_events l.thread l.holders (drop l.event-index l.events) ≡ held_after_events l.thread l.initial.holders l.events
