-- Where a schedule with pairs of a wake and a signal is signalled.
use Rattle.std.specs.Prelude.{ℕ, ◌≡◌, ◌≢◌, ◌<◌, true, List, Contains}
use Rattle.gp_base.specs.ListLaws.{Pairwise}
use Rattle.gp_window.specs.declared.schedule.EventId.{EventId}
use Rattle.gp_window.specs.WindowForm.{WindowForm}
use Rattle.gp_instance.specs.Matches.{is_before, place_of}
use Rattle.gp_replay.specs.Feasible.{IsFeasible}
use Rattle.gp_constraint.specs.PointLaws.{event_id}
use Rattle.gp_notify.specs.declared.pair.Pair.{Pair}
use Rattle.gp_notify.specs.Calls.{IsTurn, Notifies, Signals, Sleeps, Wakes}

-- the sleep of a wake: the last sleep on its condition before it in its thread, with no wake from it between
pub record IsSleepOf (window : WindowForm) (condition : List ℕ) (wake sleep : EventId) : Type 0 where
  pub own : sleep.thread ≡ wake.thread
  pub earlier : sleep.index < wake.index
  pub sleeps : Sleeps window condition sleep
  pub last : (index : ℕ) → sleep.index < index → index < wake.index → IsTurn window condition (event_id wake.thread index) → ⊥

-- both events stand in the schedule, the first before the second
abbrev pub StandsBefore : List EventId → EventId → EventId → Type 0
StandsBefore schedule one other = is_before (place_of schedule one) (place_of schedule other) ≡ true

-- a signal of its condition by another thread stands between the sleep of a wake and the wake
pub record IsServed (window : WindowForm) (schedule : List EventId) (wake signal : EventId) : Type 0 where
  pub condition : List ℕ
  pub sleep : EventId
  pub wakes : Wakes window condition wake
  pub slept : IsSleepOf window condition wake sleep
  pub signals : Signals window condition signal
  pub apart : signal.thread ≢ wake.thread
  pub after_sleep : StandsBefore schedule sleep signal
  pub before_wake : StandsBefore schedule signal wake

-- two pairs are of different wakes
abbrev pub HaveOwnWakes : Pair → Pair → Type 0
HaveOwnWakes one other = one.wake ≢ other.wake

-- two pairs have one signal only where it signals to all
abbrev pub ShareNoNotify : WindowForm → Pair → Pair → Type 0
ShareNoNotify window one other = one.signal ≡ other.signal → (condition : List ℕ) → Notifies window condition one.signal → ⊥

-- a feasible schedule, with a signal for each of its wakes
pub record IsSignalled (window : WindowForm) (schedule : List EventId) (pairs : List Pair) : Type 0 where
  pub feasible : IsFeasible window schedule
  pub each : (wake : EventId) (condition : List ℕ) → Contains schedule wake → Wakes window condition wake
      → (signal : EventId) × Contains pairs (record { wake = wake; signal = signal })
  pub served : (pair : Pair) → Contains pairs pair → IsServed window schedule pair.wake pair.signal
  pub once : Pairwise HaveOwnWakes pairs
  pub alone : Pairwise (ShareNoNotify window) pairs
