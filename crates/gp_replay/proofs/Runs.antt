-- Where a replay ends, and what that says of the events that happened.
use Rattle.std.proofs.Common.{ℕ, zero, suc, ◌≡◌, ◌+◌, ◌⊎◌, inl, inr, refl, subst, List, [], ◌∷◌, arith}
use Rattle.std.specs.Prelude.{Result, Ok, Err}
use Rattle.gp_window.specs.declared.schedule.EventId.{EventId}
use Rattle.gp_window.specs.WindowForm.{WindowForm}
use Rattle.gp_replay.specs.declared.state.State.{State}
use Rattle.gp_replay.specs.declared.rule.Rule.{Rule}
use Rattle.gp_replay.specs.declared.running.ReplayFault.{ReplayFault}
use Rattle.gp_replay.specs.declared.running.ReplayFault.TheVariants.{Stuck}
use Rattle.gp_base.specs.Results.{and_then}
use Rattle.gp_replay.specs.Step.{next}
use Rattle.gp_replay.specs.Feasible.{Runs, StuckAt, told_at, end_from}

-- a replay that ends well made its first step
taken : (place : ℕ) (first : Result State Rule) (rest : State → Result State ReplayFault) (last : State)
    → and_then (told_at place first) rest ≡ Ok last
    → (middle : State) × (first ≡ Ok middle) × (rest middle ≡ Ok last)
taken place (Ok middle) rest last e = (middle, refl, e)
taken place (Err rule) rest last e = cc

-- a replay that is stuck made its first step, or is stuck there
stopped : (place at : ℕ) (rule : Rule) (first : Result State Rule) (rest : State → Result State ReplayFault)
    → and_then (told_at place first) rest ≡ Err (Stuck at rule)
    → ((middle : State) × (first ≡ Ok middle) × (rest middle ≡ Err (Stuck at rule))) ⊎ ((at ≡ place) × (first ≡ Err rule))
stopped place at rule (Ok middle) rest e = inl (middle, refl, e)
stopped place at rule (Err other) rest e = inr ((cc), (cc))

pub to_runs : (window : WindowForm) (place : ℕ) (state last : State) (ids : List EventId)
    → end_from window place state ids ≡ Ok last → Runs window state ids last
to_runs window place state last [] e = cc
to_runs window place state last (id ∷ ids) e =
    let t = taken place (next window state id) (λ middle. end_from window (place + 1) middle ids) last e in
    (t.0, t.1, to_runs window (place + 1) t.0 last ids t.2)

pub from_runs : (window : WindowForm) (place : ℕ) (state last : State) (ids : List EventId)
    → Runs window state ids last → end_from window place state ids ≡ Ok last
from_runs window place state last [] r = cc
from_runs window place state last (id ∷ ids) r = rw r.1 (from_runs window (place + 1) r.0 last ids r.2)

-- a replay that is stuck so many events after this place is stuck at the event of that number
to_stuck_later : (window : WindowForm) (place at : ℕ) (rule : Rule) (state : State) (ids : List EventId)
    → end_from window place state ids ≡ Err (Stuck at rule)
    → (later : ℕ) × (at ≡ place + later) × StuckAt window state ids later rule
to_stuck_later window place at rule state [] e = cc
to_stuck_later window place at rule state (id ∷ ids) e =
    elim (stopped place at rule (next window state id) (λ middle. end_from window (place + 1) middle ids) e) [
      | inl t ↦
          let s = to_stuck_later window (place + 1) at rule t.0 ids t.2 in
          (suc s.0, omega arith, (s.2.0, s.2.1, (t.0, t.1, s.2.2), s.2.3, s.2.4))
      | inr t ↦ (0, omega arith, (state, id, refl, refl, t.1))
    ]

pub to_stuck : (window : WindowForm) (at : ℕ) (rule : Rule) (state : State) (ids : List EventId)
    → end_from window 0 state ids ≡ Err (Stuck at rule) → StuckAt window state ids at rule
to_stuck window at rule state ids e =
    let s = to_stuck_later window 0 at rule state ids e in
    let P : ℕ → Type 0 = λ n. StuckAt window state ids n rule in
    let same : s.0 ≡ at = omega arith in
    subst P same s.2

pub from_stuck : (window : WindowForm) (place later at : ℕ) (rule : Rule) (state : State) (ids : List EventId)
    → at ≡ place + later → StuckAt window state ids later rule
    → end_from window place state ids ≡ Err (Stuck at rule)
from_stuck window place later at rule state [] is s = cc
from_stuck window place zero at rule state (id ∷ ids) is s =
    let here : next window state id ≡ Err rule = cc in
    let same : place ≡ at = omega arith in
    rw here (rw same refl)
from_stuck window place (suc later) at rule state (id ∷ ids) is s =
    let there : at ≡ (place + 1) + later = omega arith in
    rw s.2.1 (from_stuck window (place + 1) later at rule s.2.0 ids there (s.0, s.1, s.2.2, s.3, s.4))
