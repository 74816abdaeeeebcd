-- What operations do to conditions: a thread sleeps on one, wakes from it, or signals it to one sleeper or to all.
use Rattle.std.specs.Prelude.{ℕ, ◌≡◌, ◌⊎◌, Bool, true, false, List, [], ◌∷◌, Option, Some, None, codes, if◌then◌else◌}
use Rattle.std.specs.Str.{bytes_eq}
use Rattle.gp_trace.specs.declared.event.Event.{Event}
use Rattle.gp_trace.specs.declared.event.Event.TheVariants.{Op}
use Rattle.gp_window.specs.declared.schedule.EventId.{EventId}
use Rattle.gp_window.specs.Events.{event_at}
use Rattle.gp_window.specs.WindowForm.{WindowForm}
use Rattle.gp_notify.specs.declared.call.Call.{Call}
use Rattle.gp_notify.specs.declared.call.Call.TheVariants.{Sleep, Wake, Notify, NotifyAll}

-- what an operation of this name does to the condition, where it is one of the four
abbrev pub call_named : List ℕ → List ℕ → Option Call
call_named name condition =
    if bytes_eq name (codes "sleep") then Some (Sleep condition) else
    (if bytes_eq name (codes "wake") then Some (Wake condition) else
    (if bytes_eq name (codes "notify") then Some (Notify condition) else
    (if bytes_eq name (codes "notifyall") then Some (NotifyAll condition) else None)))

-- an operation on one object, the condition
abbrev pub call_on : List ℕ → List (List ℕ) → Option Call
call_on name (condition ∷ []) = call_named name condition
call_on name _ = None

-- what an event does to a condition
abbrev pub call_in : Option Event → Option Call
call_in (Some (Op operation)) = call_on operation.0 operation.1
call_in _ = None

-- what the event that an id names does to a condition
abbrev pub call_at : WindowForm → EventId → Option Call
call_at window id = call_in (event_at window id)

-- the event sleeps on the condition
abbrev pub Sleeps : WindowForm → List ℕ → EventId → Type 0
Sleeps window condition id = call_at window id ≡ Some (Sleep condition)

-- the event wakes from it
abbrev pub Wakes : WindowForm → List ℕ → EventId → Type 0
Wakes window condition id = call_at window id ≡ Some (Wake condition)

-- the event signals it to one
abbrev pub Notifies : WindowForm → List ℕ → EventId → Type 0
Notifies window condition id = call_at window id ≡ Some (Notify condition)

-- the event signals it, to one or to all
abbrev pub Signals : WindowForm → List ℕ → EventId → Type 0
Signals window condition id = Notifies window condition id ⊎ (call_at window id ≡ Some (NotifyAll condition))

-- the event sleeps on it or wakes from it
abbrev pub IsTurn : WindowForm → List ℕ → EventId → Type 0
IsTurn window condition id = Sleeps window condition id ⊎ Wakes window condition id

-- whether it is a wake
abbrev pub is_wake : Option Call → Bool
is_wake (Some (Wake condition)) = true
is_wake _ = false

-- whether it is a signal to one
abbrev pub is_notify : Option Call → Bool
is_notify (Some (Notify condition)) = true
is_notify _ = false

-- whether it is a wake from this condition
abbrev pub wakes_from : List ℕ → Option Call → Bool
wakes_from condition (Some (Wake other)) = bytes_eq other condition
wakes_from condition _ = false

-- whether it is a signal of this condition, to one or to all
abbrev pub signals_on : List ℕ → Option Call → Bool
signals_on condition (Some (Notify other)) = bytes_eq other condition
signals_on condition (Some (NotifyAll other)) = bytes_eq other condition
signals_on condition _ = false

-- whether the second signals the condition from which the first wakes
abbrev pub signals_for : Option Call → Option Call → Bool
signals_for (Some (Wake condition)) signal = signals_on condition signal
signals_for _ signal = false
