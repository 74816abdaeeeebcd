-- Laws: a schedule that has each event of its window has counted all of them.
use Rattle.std.specs.Prelude.{ℕ, zero, suc, ◌≡◌, ◌≤◌, List, Some, Contains}
use Rattle.std.proofs.Common.{arith, inl, inr, refl}
use Rattle.std.proofs.lemmas.Option.{slice_get_cases}
use Rattle.gp_trace.specs.declared.event.Event.{Event}
use Rattle.gp_window.specs.declared.schedule.EventId.{EventId}
use Rattle.gp_window.specs.Events.{event_at, segment_of, size_of}
use Rattle.gp_window.specs.WindowForm.{WindowForm}
use Rattle.gp_replay.specs.declared.state.State.{State}
use Rattle.gp_replay.specs.CountedLaws.{counted_from_in}
use Rattle.gp_replay.specs.Feasible.{Runs}
use Rattle.gp_replay.specs.PartLaws.{prefix_from_start}
use Rattle.gp_replay.specs.Step.{count_of, start_state}

-- where the last event of each thread has happened, all events are counted
pub counted_by_ends : (window : WindowForm) (last : State) (ids : List EventId) → Runs window (start_state window) ids last
    → ((id : EventId) (event : Event) → event_at window id ≡ Some event → suc id.index ≡ size_of window id.thread → Contains ids id)
    → (thread : ℕ) → count_of last thread ≡ size_of window thread
counted_by_ends window last ids r ends thread = by (size_of window thread) refl
  where
    most : count_of last thread ≤ size_of window thread
    most = (prefix_from_start window last ids thread r).1

    by : (n : ℕ) → n ≡ size_of window thread → count_of last thread ≡ size_of window thread
    by zero is = let high = most in omega (arith, is, high)
    by (suc index) is =
        let end : EventId = record { thread = thread; index = index } in
        elim (slice_get_cases (segment_of window thread) index).1 [
          | inl there ↦
              let low = counted_from_in window last ids end r (ends end there.0 there.2 is) in
              let high = most in
              omega (arith, is, low, high)
          | inr past ↦ let below = past.0 in absurd (omega (arith, is, below))
        ]

-- and so are they where each event has happened
pub counted_by_whole : (window : WindowForm) (last : State) (ids : List EventId) → Runs window (start_state window) ids last
    → ((id : EventId) (event : Event) → event_at window id ≡ Some event → Contains ids id)
    → (thread : ℕ) → count_of last thread ≡ size_of window thread
counted_by_whole window last ids r whole = counted_by_ends window last ids r (λ id event there end. whole id event there)
