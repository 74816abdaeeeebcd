-- When a schedule is feasible: where each of its events may happen, once those before it have.
use Rattle.std.proofs.Common.{◌≡◌, sym, ◌∙◌, refl, subst, List, [], ◌∷◌, ◌++◌, append-nil, append_assoc}
use Rattle.std.specs.Prelude.{Ok}
use Rattle.gp_window.specs.declared.schedule.EventId.{EventId}
use Rattle.gp_window.specs.WindowForm.{WindowForm}
use Rattle.gp_replay.specs.declared.state.State.{State}
use Rattle.gp_replay.specs.Feasible.{IsFeasible, Runs}
use Rattle.gp_replay.specs.RunLaws.{runs_join}
use Rattle.gp_replay.specs.Step.{next, start_state}

-- one event more happens after others
pub runs_more : (window : WindowForm) (before state middle : State) (ids : List EventId) (id : EventId)
    → Runs window before ids state → next window state id ≡ Ok middle → Runs window before (ids ++ id ∷ []) middle
runs_more window before state middle ids id r e = runs_join window before state middle ids (id ∷ []) r (middle, e, refl)

-- each event of a schedule may happen, once those before it have
abbrev pub EachMayHappen : WindowForm → List EventId → Type 0
EachMayHappen window all = (done : List EventId) (id : EventId) (todo : List EventId) (state : State)
    → all ≡ done ++ id ∷ todo → Runs window (start_state window) done state → (middle : State) × (next window state id ≡ Ok middle)

feasible_after : (window : WindowForm) (all done todo : List EventId) (state : State)
    → EachMayHappen window all → all ≡ done ++ todo → Runs window (start_state window) done state → IsFeasible window all
feasible_after window all done [] state each is r =
    (state, subst (λ ids. Runs window (start_state window) ids state) (sym (is ∙ append-nil done)) r)
feasible_after window all done (id ∷ todo) state each is r =
    let step = each done id todo state is r in
    feasible_after window all (done ++ id ∷ []) todo step.0 each (is ∙ sym (append_assoc done (id ∷ []) todo))
    (runs_more window (start_state window) state step.0 done id r step.1)

-- a schedule of which each event may happen after those before it is feasible
pub feasible_by_steps : (window : WindowForm) (all : List EventId) → EachMayHappen window all → IsFeasible window all
feasible_by_steps window all each = feasible_after window all [] all (start_state window) each refl refl
