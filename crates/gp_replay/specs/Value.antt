-- Where the value comes from that a variable has.
use Rattle.std.specs.Prelude.{ℕ, ℤ, ◌≡◌, ◌⊎◌, List, ◌∷◌, ◌++◌, Some}
use Rattle.std.specs.List.{AllByRecursion}
use Rattle.gp_trace.specs.declared.event.Event.TheVariants.{Read, Write}
use Rattle.gp_window.specs.declared.schedule.EventId.{EventId}
use Rattle.gp_window.specs.WindowForm.{WindowForm}
use Rattle.gp_replay.specs.declared.state.State.{State}
use Rattle.gp_window.specs.Events.{event_at}
use Rattle.gp_replay.specs.Step.{start_state, value_of}
use Rattle.gp_replay.specs.Feasible.{IsFeasible, Runs}

-- the event writes this value to the variable
abbrev pub Writes : WindowForm → EventId → List ℕ → ℤ → Type 0
Writes window id variable value = event_at window id ≡ Some (Write variable value)

-- the event reads the variable, and found this value
abbrev pub Reads : WindowForm → EventId → List ℕ → ℤ → Type 0
Reads window id variable value = event_at window id ≡ Some (Read variable value)

-- none of the events writes the variable
abbrev pub NoneWrites : WindowForm → List EventId → List ℕ → Type 0
NoneWrites window ids variable = AllByRecursion (λ id. (value : ℤ) → ¬ Writes window id variable value) ids

-- one of the events writes the value to the variable, and none after it writes the variable
abbrev pub IsWrittenLast : WindowForm → List EventId → List ℕ → ℤ → Type 0
IsWrittenLast window ids variable value =
    (prefix : List EventId) × (id : EventId) × (back : List EventId) × (ids ≡ prefix ++ id ∷ back) × Writes window id variable value × NoneWrites window back variable

-- the value is that of the last write to the variable, or none writes it and it had the value before
abbrev pub IsLastValue : WindowForm → State → List EventId → List ℕ → ℤ → Type 0
IsLastValue window before ids variable value = ((value_of before variable ≡ value) × NoneWrites window ids variable) ⊎ IsWrittenLast window ids variable value

-- a variable has the value of the last write to it, or the value with which the window begins
abbrev pub ValuesAreLastWrites : Type 0
ValuesAreLastWrites = (window : WindowForm) (ids : List EventId) (last : State) → Runs window (start_state window) ids last
    → (variable : List ℕ) → IsLastValue window (start_state window) ids variable (value_of last variable)

-- a read finds the value of the last write to its variable before it, or the value with which the window begins
abbrev pub ReadsFindLastWrites : Type 0
ReadsFindLastWrites = (window : WindowForm) (prefix : List EventId) (id : EventId) (back : List EventId) (variable : List ℕ) (value : ℤ)
    → IsFeasible window (prefix ++ id ∷ back) → Reads window id variable value
    → IsLastValue window (start_state window) prefix variable value
