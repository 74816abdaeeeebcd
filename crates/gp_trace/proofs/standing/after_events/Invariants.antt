-- The walk over the events that are left, from here, is the walk over all.
use Rattle.std.proofs.Common.{◌≡◌, drop}
use Rattle.gp_trace.specs.Rules.{after_all}
use Rattle.gp_trace.proofs.standing.after_events.Given as goal

abbrev pub invariant-loop-event : goal.invariant-loop-event
invariant-loop-event l = after_all l.standing (drop l.event-index l.events) ≡ after_all l.initial.standing l.events
