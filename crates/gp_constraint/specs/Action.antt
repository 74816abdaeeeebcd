-- What events do to variables, locks and threads; all else about an event is nothing to the constraints.
use Rattle.std.specs.Prelude.{Option, Some, None}
use Rattle.gp_trace.specs.declared.event.Event.{Event}
use Rattle.gp_trace.specs.declared.event.Event.TheVariants as event
use Rattle.gp_trace.specs.declared.lock_use.LockUse.{LockUse}
use Rattle.gp_trace.specs.LockUse.{lock_use_of}
use Rattle.gp_constraint.specs.declared.action.Action.{Action}
use Rattle.gp_constraint.specs.declared.action.Action.TheVariants.{Read, Write, Lock, Start, Join, Other}

-- what is done by a use of a lock, where there is one
abbrev pub used : Option LockUse → Action
used (Some lock_use) = Lock lock_use
used None = Other

-- what an event does
abbrev pub action_of : Event → Action
action_of (event.Read variable value) = Read variable value
action_of (event.Write variable value) = Write variable value
action_of (event.Start thread) = Start thread
action_of (event.Join thread) = Join thread
action_of other = used (lock_use_of other)
