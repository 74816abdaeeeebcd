-- Laws: what a step that was made says.
use Rattle.std.proofs.Common.{◌≡◌, Bool, true, false, refl, eqb-true}
use Rattle.std.specs.Prelude.{Option, Some, None, Result, Ok, Err, ◌==◌, if◌then◌else◌}
use Rattle.std.proofs.lemmas.Bool.{eq-eqb}
use Rattle.gp_trace.specs.declared.event.Event.{Event}
use Rattle.gp_window.specs.declared.schedule.EventId.{EventId}
use Rattle.gp_window.specs.WindowForm.{WindowForm}
use Rattle.gp_replay.specs.declared.state.State.{State}
use Rattle.gp_replay.specs.declared.rule.Rule.{Rule}
use Rattle.gp_base.specs.Results.{and_then}
use Rattle.gp_window.specs.Events.{event_at}
use Rattle.gp_window.specs.Starts.{is_among}
use Rattle.gp_replay.specs.Step.{after, allowed_in, count_of, next, next_with, rules_of, turn_of}

-- the step was that of an event, in its turn, which was allowed
pub record Stepped (window : WindowForm) (state middle : State) (id : EventId) : Type 0 where
  pub event : Event
  pub there : event_at window id ≡ Some event
  pub turn : count_of state id.thread ≡ id.index
  pub started : is_among state.started id.thread ≡ true
  pub allowed : allowed_in window state event ≡ Ok tt
  pub gives : middle ≡ after id.thread event state

-- what follows gave a value, so the first step did
first_gave : {A B : Type 0} (first : Result A Rule) (rest : A → Result B Rule) (value : B)
    → and_then first rest ≡ Ok value → (a : A) × (first ≡ Ok a) × (rest a ≡ Ok value)
first_gave (Ok a) rest value e = (a, refl, e)
first_gave (Err rule) rest value e = cc

-- a test before a step that gave a value held
test_held : {A : Type 0} (b : Bool) (first : Result A Rule) (rule : Rule) (value : A)
    → (if b then first else Err rule) ≡ Ok value → (b ≡ true) × (first ≡ Ok value)
test_held true first rule value e = (refl, e)
test_held false first rule value e = cc

-- the value that an answer gave
given : (gave middle : State) → ◌≡◌ {A = Result State Rule} (Ok gave) (Ok middle) → middle ≡ gave
given gave middle e = cc

-- an id whose turn it is has the index that its thread's count shows
pub turn_is_count : (state : State) (id : EventId) (turn : Unit {0}) → turn_of state id ≡ Ok turn → count_of state id.thread ≡ id.index
turn_is_count state id turn e =
    let held = test_held _ _ _ turn e in eqb-true (count_of state id.thread) id.index held.0

-- the thread of an id whose turn it is is started
turn_is_started : (state : State) (id : EventId) (turn : Unit {0}) → turn_of state id ≡ Ok turn → is_among state.started id.thread ≡ true
turn_is_started state id turn e =
    let held = test_held _ _ _ turn e in
    let again = test_held _ _ _ turn held.1 in again.0

stepped_with : (window : WindowForm) (state middle : State) (id : EventId) (event : Option Event)
    → event_at window id ≡ event → next_with window state id event ≡ Ok middle → Stepped window state middle id
stepped_with window state middle id None there e = cc
stepped_with window state middle id (Some event) there e =
    let kept = first_gave (rules_of window state id event) (λ kept. Ok (after id.thread event state)) middle e in
    let turn = first_gave (turn_of state id) (λ turn. allowed_in window state event) kept.0 kept.1 in
    record {
      event = event;
      there = there;
      turn = turn_is_count state id turn.0 turn.1;
      started = turn_is_started state id turn.0 turn.1;
      allowed = turn.2;
      gives = given (after id.thread event state) middle kept.2;
    }

pub stepped : (window : WindowForm) (state middle : State) (id : EventId) → next window state id ≡ Ok middle → Stepped window state middle id
stepped window state middle id e = stepped_with window state middle id (event_at window id) refl e

-- an event in its turn, of a started thread, which is allowed, happens
pub happens : (window : WindowForm) (state : State) (id : EventId) (event : Event)
    → event_at window id ≡ Some event → count_of state id.thread ≡ id.index → is_among state.started id.thread ≡ true
    → allowed_in window state event ≡ Ok tt → next window state id ≡ Ok (after id.thread event state)
happens window state id event there turn started allowed =
    let due : (count_of state id.thread == id.index) ≡ true = eq-eqb (count_of state id.thread) id.index turn in
    rw there (rw due (rw started (rw allowed refl)))
