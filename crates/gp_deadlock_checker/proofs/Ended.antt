-- Where a schedule ends, and that a cycle is stuck there exactly where its events are next.
use Rattle.std.proofs.Common.{◌≡◌, refl, sym, ◌∙◌, subst, true, false, List, [], ◌∷◌, Ok, eqb-true, eq-eqb}
use Rattle.std.proofs.lemmas.Bool.{and_parts, false≢true}
use Rattle.gp_replay.specs.declared.state.State.{State}
use Rattle.gp_replay.specs.Feasible.{Runs, end_of}
use Rattle.gp_replay.specs.Step.{count_of, start_state}
use Rattle.gp_stuck.specs.Cycle.{is_cycle}
use Rattle.gp_stuck.specs.Stuck.{AreBlocked, AreNext, BlockAround, EndsStuck}
use Rattle.gp_window.specs.declared.schedule.EventId.{EventId}
use Rattle.gp_window.specs.WindowForm.{IsWindow, WindowForm}
use Rattle.gp_deadlock_checker.specs.Finds.{are_next, is_next}
use Rattle.gp_deadlock_checker.specs.Laws.{Laws}

-- what is blocked is next
blocked_next : (window : WindowForm) (state : State) (first : EventId) (ids : List EventId) → AreBlocked window state first ids → AreNext state ids
blocked_next window state first [] blocked = tt
blocked_next window state first (last ∷ []) blocked = (blocked.turn, tt)
blocked_next window state first (one ∷ other ∷ rest) blocked = (blocked.0.turn, blocked_next window state first (other ∷ rest) blocked.1)

around_next : (window : WindowForm) (state : State) (ids : List EventId) → BlockAround window state ids → AreNext state ids
around_next window state [] blocked = absurd blocked
around_next window state (first ∷ rest) blocked = blocked_next window state first (first ∷ rest) blocked

-- whether each is next, as it is tested
next_told : (state : State) (ids : List EventId) → are_next state ids ≡ true → AreNext state ids
next_told state [] told = tt
next_told state (id ∷ ids) told =
    let parts = and_parts (is_next state id) (are_next state ids) told in
    (eqb-true (count_of state id.thread) id.index parts.0, next_told state ids parts.1)

told_next : (state : State) (ids : List EventId) → AreNext state ids → are_next state ids ≡ true
told_next state [] next = refl
told_next state (id ∷ ids) next = rw (eq-eqb (count_of state id.thread) id.index next.0, told_next state ids next.1) refl

module _ (laws : Laws) (window : WindowForm) (ids schedule : List EventId) (last : State) where
  -- the events of a cycle are next, so they block one another
  pub ends_stuck : IsWindow window → is_cycle window ids ≡ true → Runs window (start_state window) schedule last → are_next last ids ≡ true → EndsStuck window ids schedule
  ends_stuck is cycle runs told = (last, runs, laws.block.block window ids schedule last is cycle runs (next_told last ids told))

  -- or one of them is not, so they do not
  pub ends_apart : Runs window (start_state window) schedule last → are_next last ids ≡ false → EndsStuck window ids schedule → ⊥
  ends_apart runs told ends =
      let end : end_of window schedule ≡ Ok last = (laws.replay.ends window schedule last).1 runs in
      let other : end_of window schedule ≡ Ok ends.0 = (laws.replay.ends window schedule ends.0).1 ends.1 in
      let same : ends.0 ≡ last = cc in
      false≢true (sym told ∙ told_next last ids (subst (λ (state : State). AreNext state ids) same (around_next window ends.0 ids ends.2)))
