-- A cycle that is stuck stays so.
use Rattle.std.proofs.Common.{◌≡◌, ap, sym, ◌∙◌, refl, subst, List, [], ◌∷◌, true, arith}
use Rattle.std.specs.Prelude.{◌≢◌, ◌++◌, Result, Ok, Err}
use Rattle.gp_base.specs.ListLaws.{recursion_at}
use Rattle.gp_window.specs.declared.schedule.EventId.{EventId}
use Rattle.gp_window.specs.WindowForm.{IsWindow, WindowForm}
use Rattle.gp_replay.specs.CountLaws.{step_keeps_others}
use Rattle.gp_replay.specs.Counted.{EventsAreCounted}
use Rattle.gp_replay.specs.Feasible.{IsFeasible, Runs}
use Rattle.gp_replay.specs.RunLaws.{runs_join, runs_once, runs_split}
use Rattle.gp_replay.specs.Step.{count_of, next, start_state}
use Rattle.gp_replay.specs.StepLaws.{stepped}
use Rattle.gp_replay.specs.declared.rule.Rule.{Rule}
use Rattle.gp_replay.specs.declared.rule.Rule.TheVariants.{LockHeld}
use Rattle.gp_replay.specs.declared.state.State.{State}
use Rattle.gp_stuck.specs.Cycle.{is_cycle}
use Rattle.gp_stuck.specs.Laws.{CyclesBlock, StuckCyclesWaitForEver}
use Rattle.gp_stuck.specs.Stuck.{AreBlocked, AreNext, BlockAround, EndsStuck, IsBlocked}
use Rattle.gp_stuck.proofs.Blocked.{around_next}

-- the thread of an event that happens is not that of a blocked one, which would be the next event of this thread
other_happens : (window : WindowForm) (state middle : State) (id one other : EventId) → next window state id ≡ Ok middle → IsBlocked window state one other
    → id.thread ≢ one.thread
other_happens window state middle id one other e blocked same =
    let index : id.index ≡ one.index = sym (stepped window state middle id e).turn ∙ ap (count_of state) same ∙ blocked.turn in
    let is : id ≡ one = ap (λ t. record { thread = t; index = id.index }) same ∙ ap (λ i. record { thread = one.thread; index = i }) index in
    let bad : ◌≡◌ {A = Result State Rule} (Ok middle) (Err LockHeld) = sym e ∙ ap (next window state) is ∙ blocked.stops in cc

-- so a blocked event stays the next one of its thread
stays_next : (window : WindowForm) (state middle : State) (id one other : EventId) → next window state id ≡ Ok middle → IsBlocked window state one other
    → count_of middle one.thread ≡ one.index
stays_next window state middle id one other e blocked =
    step_keeps_others window state middle id one.thread e (other_happens window state middle id one other e blocked) ∙ blocked.turn

-- all of them do
stay_next : (window : WindowForm) (state middle : State) (id first : EventId) (ids : List EventId) → next window state id ≡ Ok middle
    → AreBlocked window state first ids → AreNext middle ids
stay_next window state middle id first [] e blocked = tt
stay_next window state middle id first (last ∷ []) e blocked = (stays_next window state middle id last first e blocked, tt)
stay_next window state middle id first (one ∷ other ∷ rest) e blocked =
    (stays_next window state middle id one other e blocked.0, stay_next window state middle id first (other ∷ rest) e blocked.1)

still_next : (window : WindowForm) (state middle : State) (id : EventId) (ids : List EventId) → next window state id ≡ Ok middle
    → BlockAround window state ids → AreNext middle ids
still_next window state middle id [] e around = absurd around
still_next window state middle id (first ∷ rest) e around = stay_next window state middle id first (first ∷ rest) e around

-- what happens once the events of a cycle block one another leaves them so
stay_blocked : CyclesBlock → (window : WindowForm) (ids before more : List EventId) (state last : State) → IsWindow window → is_cycle window ids ≡ true
    → Runs window (start_state window) before state → BlockAround window state ids → Runs window state more last → BlockAround window last ids
stay_blocked block window ids before [] state last is cycle run around r = subst (λ end. BlockAround window end ids) (sym r) around
stay_blocked block window ids before (id ∷ more) state last is cycle run around r =
    let longer = runs_join window (start_state window) state r.0 before (id ∷ []) run (r.0, r.1, refl) in
    let still = block.block window ids (before ++ id ∷ []) r.0 is cycle longer (still_next window state r.0 id ids r.1 around) in
    stay_blocked block window ids (before ++ id ∷ []) more r.0 last is cycle longer still r.2

-- a feasible schedule that goes on from where a cycle is stuck ends stuck
ends_stuck : CyclesBlock → (window : WindowForm) (ids schedule more : List EventId) → IsWindow window → is_cycle window ids ≡ true
    → EndsStuck window ids schedule → IsFeasible window (schedule ++ more) → EndsStuck window ids (schedule ++ more)
ends_stuck block window ids schedule more is cycle stuck feasible =
    let parts = runs_split window (start_state window) feasible.0 schedule more feasible.1 in
    let same = runs_once window (start_state window) stuck.0 parts.0 schedule stuck.1 parts.1 in
    let around = subst (λ state. BlockAround window state ids) same stuck.2 in
    (feasible.0, feasible.1, stay_blocked block window ids schedule more parts.0 feasible.0 is cycle parts.1 around parts.2)

-- so a cycle that is stuck waits for ever
pub wait_for_ever : CyclesBlock → EventsAreCounted → StuckCyclesWaitForEver
wait_for_ever block counted = record {
  stay = ends_stuck block;
  wait = λ window ids schedule is cycle stuck more feasible waiting id among happened own.
      let ends = ends_stuck block window ids schedule more is cycle stuck feasible in
      let turn = recursion_at (λ (one : EventId). count_of ends.0 one.thread ≡ one.index) ids waiting (around_next window ends.0 ids ends.2) among in
      let counted_in = (counted window (schedule ++ more) ends.0 ends.1 id).0 happened in
      let same = ap (count_of ends.0) own in
      omega (arith, counted_in, same, turn);
}
