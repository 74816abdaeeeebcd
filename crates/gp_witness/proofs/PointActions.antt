-- The actions of points, and what the events of the window do.
use Rattle.std.proofs.Common.{ℕ, ◌≡◌, ap, sym, ◌∙◌, List}
use Rattle.std.specs.Prelude.{ℤ, Option, Some}
use Rattle.gp_trace.specs.declared.event.Event.{Event}
use Rattle.gp_trace.specs.declared.lock_use.LockMode.{LockMode}
use Rattle.gp_trace.specs.declared.lock_use.LockUse.TheVariants.{Take, GiveBack}
use Rattle.gp_window.specs.declared.schedule.EventId.{EventId}
use Rattle.gp_window.specs.Events.{event_at}
use Rattle.gp_window.specs.WindowForm.{WindowForm}
use Rattle.gp_replay.specs.LockUses.{GivesBack, Takes, use_of}
use Rattle.gp_replay.specs.Order.{Joins, Starts}
use Rattle.gp_replay.specs.Value.{Reads, Writes}
use Rattle.gp_constraint.specs.Action.{action_of}
use Rattle.gp_constraint.specs.PointLaws.{IsEventOf}
use Rattle.gp_constraint.specs.declared.action.Action.TheVariants.{Read, Write, Lock, Start, Join}
use Rattle.gp_constraint.specs.declared.point.Point.{Point}
use Rattle.gp_witness.proofs.Actions.{event_lock, join_event, lock_event, read_event, start_event, use_event, write_event}

-- the point is that of an event of the window
pub record IsPoint (window : WindowForm) (p : Point) : Type 0 where
  pub event : Event
  pub there : event_at window p.id ≡ Some event
  pub action : p.action ≡ action_of event

pub point_event : (window : WindowForm) (p : Point) → IsPoint window p → IsEventOf window p.id
point_event window p is = (is.event, is.there)

-- what the event of a point does
pub point_reads : (window : WindowForm) (p : Point) (variable : List ℕ) (value : ℤ) → IsPoint window p → p.action ≡ Read variable value → Reads window p.id variable value
point_reads window p variable value is e = is.there ∙ ap Some (read_event is.event variable value (sym is.action ∙ e))

pub point_writes : (window : WindowForm) (p : Point) (variable : List ℕ) (value : ℤ) → IsPoint window p → p.action ≡ Write variable value → Writes window p.id variable value
point_writes window p variable value is e = is.there ∙ ap Some (write_event is.event variable value (sym is.action ∙ e))

pub point_starts : (window : WindowForm) (p : Point) (thread : ℕ) → IsPoint window p → p.action ≡ Start thread → Starts window p.id thread
point_starts window p thread is e = is.there ∙ ap Some (start_event is.event thread (sym is.action ∙ e))

pub point_joins : (window : WindowForm) (p : Point) (thread : ℕ) → IsPoint window p → p.action ≡ Join thread → Joins window p.id thread
point_joins window p thread is e = is.there ∙ ap Some (join_event is.event thread (sym is.action ∙ e))

pub point_takes : (window : WindowForm) (p : Point) (mode : LockMode) (lock : List ℕ) → IsPoint window p → p.action ≡ Lock (Take mode lock) → Takes window mode p.id lock
point_takes window p mode lock is e = ap use_of is.there ∙ lock_event is.event (Take mode lock) (sym is.action ∙ e)

pub point_gives : (window : WindowForm) (p : Point) (mode : LockMode) (lock : List ℕ) → IsPoint window p → p.action ≡ Lock (GiveBack mode lock) → GivesBack window mode p.id lock
point_gives window p mode lock is e = ap use_of is.there ∙ lock_event is.event (GiveBack mode lock) (sym is.action ∙ e)

-- the action of the point of an event
pub event_action : (window : WindowForm) (p : Point) (e : Event) → IsPoint window p → event_at window p.id ≡ Some e → p.action ≡ action_of e
event_action window p e is there =
    let both : ◌≡◌ {A = Option Event} (Some is.event) (Some e) = sym is.there ∙ there in
    let same : is.event ≡ e = cc in is.action ∙ ap action_of same

pub gives_action : (window : WindowForm) (p : Point) (mode : LockMode) (lock : List ℕ) → IsPoint window p → GivesBack window mode p.id lock → p.action ≡ Lock (GiveBack mode lock)
gives_action window p mode lock is gives = is.action ∙ event_lock is.event (GiveBack mode lock) (sym (ap use_of is.there) ∙ gives)

-- who gives a lock back is an event of the window
pub gives_event : (window : WindowForm) (mode : LockMode) (id : EventId) (lock : List ℕ) → GivesBack window mode id lock → IsEventOf window id
gives_event window mode id lock gives = let found = use_event (event_at window id) (GiveBack mode lock) gives in (found.0, found.1)
