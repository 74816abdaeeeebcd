-- Laws: what a step does with its use of a lock.
use Rattle.std.proofs.Common.{ℕ, ◌≡◌, ap, refl, Bool, true, false, List}
use Rattle.std.specs.Prelude.{Option, Some, Result, Ok, Err, if◌then◌else◌}
use Rattle.gp_trace.specs.LockUse.{lock_use_of}
use Rattle.gp_trace.specs.declared.event.Event.{Event}
use Rattle.gp_trace.specs.declared.event.Event.TheVariants.{Read, Join}
use Rattle.gp_trace.specs.declared.lock_use.LockMode.{LockMode}
use Rattle.gp_trace.specs.declared.lock_use.LockUse.{LockUse}
use Rattle.gp_trace.specs.declared.lock_use.LockUse.TheVariants.{Take}
use Rattle.gp_window.specs.WindowForm.{WindowForm}
use Rattle.gp_window.specs.declared.schedule.EventId.{EventId}
use Rattle.gp_replay.specs.LockUses.{use_at, use_of}
use Rattle.gp_replay.specs.Step.{allowed_in, allowed_use, holders_after, is_held_against, next, readers_after}
use Rattle.gp_replay.specs.declared.rule.Rule.{Rule}
use Rattle.gp_replay.specs.declared.rule.Rule.TheVariants.{LockHeld}
use Rattle.gp_replay.specs.declared.state.State.{State}
use Rattle.gp_replay.specs.StepLaws.{stepped}

-- the step's event uses a lock so, or none, which was allowed, and it changed holders and readers accordingly
pub record Used (window : WindowForm) (state middle : State) (id : EventId) : Type 0 where
  pub how : Option LockUse
  pub at : use_at window id ≡ how
  pub allowed : allowed_use state how ≡ Ok tt
  pub holders : middle.holders ≡ holders_after id.thread how state.holders
  pub readers : middle.readers ≡ readers_after id.thread how state.readers

-- an event that is allowed uses its lock as it may
use_allowed : (window : WindowForm) (state : State) (event : Event) → allowed_in window state event ≡ Ok tt → allowed_use state (lock_use_of event) ≡ Ok tt
use_allowed window state (Read variable value) e = refl
use_allowed window state (Join thread) e = refl
use_allowed window state event e = e

pub used : (window : WindowForm) (state middle : State) (id : EventId) → next window state id ≡ Ok middle → Used window state middle id
used window state middle id e =
    let s = stepped window state middle id e in
    record {
      how = lock_use_of s.event;
      at = ap use_of s.there;
      allowed = use_allowed window state s.event s.allowed;
      holders = ap (λ (t : State). t.holders) s.gives;
      readers = ap (λ (t : State). t.readers) s.gives;
    }

passes : (held : Bool) → ◌≡◌ {A = Result (Unit {0}) Rule} (if held then Err LockHeld else Ok tt) (Ok tt) → held ≡ false
passes true e = cc
passes false e = refl

-- who takes a lock finds that nobody holds it against that
pub take_finds_free : (state : State) (mode : LockMode) (lock : List ℕ) → allowed_use state (Some (Take mode lock)) ≡ Ok tt → is_held_against state mode lock ≡ false
take_finds_free state mode lock e = passes (is_held_against state mode lock) e
