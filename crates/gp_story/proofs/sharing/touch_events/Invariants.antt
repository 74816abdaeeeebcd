-- What the events so far touch, and then those that are left, is all.
use Rattle.std.proofs.Common.{◌≡◌, drop}
use Rattle.gp_story.specs.Deeds.{variable_of}
use Rattle.gp_story.specs.Touched.{lock_used, with_events}
use Rattle.gp_story.proofs.sharing.touch_events.Given as goal

abbrev pub invariant-loop-event : goal.invariant-loop-event
invariant-loop-event l = record {
  variables : with_events variable_of l.thread l.variables (drop l.event-index l.events) ≡ with_events variable_of l.thread l.initial.variables l.events;
  locks : with_events lock_used l.thread l.locks (drop l.event-index l.events) ≡ with_events lock_used l.thread l.initial.locks l.events;
}
