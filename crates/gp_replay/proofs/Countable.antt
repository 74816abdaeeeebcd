-- One event more can be counted.
use Rattle.std.proofs.Common.{ℕ, zero, suc, ◌≡◌, ◌-◌, ◌<◌, ◌^◌, ap, sym, refl, subst, arith, get_or, Bor}
use Rattle.std.specs.Prelude.{Option, Some, Result, Ok, OnSome}
use Rattle.gp_trace.specs.declared.event.Event.{Event}
use Rattle.gp_window.specs.declared.schedule.EventId.{EventId}
use Rattle.gp_replay.specs.Step.{count_of, turn_of}
use Rattle.gp_replay.specs.declared.rule.Rule.{Rule}
use Rattle.gp_replay.specs.declared.state.State.{State}
use Rattle.gp_replay.specs.StepLaws.{turn_is_count}

-- states with the same counts
same_counts : (state later : State) (thread : ℕ) → later.counts ≡ state.counts → count_of later thread ≡ count_of state thread
same_counts state later zero e = refl
same_counts state later (suc place) e = ap (λ counts. get_or counts place 0) e

-- the event was found, and it is its turn
pub countable : (state later : State) (id : EventId) (found : Option (Bor Event)) (event : Bor Event) (turn : Unit {0})
    → found ≡ Some event → OnSome found (id.index < 2 ^ 32 - 1)
    → ◌≡◌ {A = Result (Unit {0}) Rule} (Ok turn) (turn_of state id) → later.counts ≡ state.counts
    → count_of later id.thread < 2 ^ 32 - 1
countable state later id found event turn is on due kept =
    let small : id.index < 2 ^ 32 - 1 = subst (λ (o : Option (Bor Event)). OnSome o (id.index < 2 ^ 32 - 1)) is on in
    let count : count_of state id.thread ≡ id.index = turn_is_count state id turn (sym due) in
    let same : count_of later id.thread ≡ count_of state id.thread = same_counts state later id.thread kept in
    omega arith
