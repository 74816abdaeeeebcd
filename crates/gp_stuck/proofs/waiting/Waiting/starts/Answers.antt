-- Nothing is found where the search does not begin.
use Rattle.std.proofs.Common.{ℕ, ◌≡◌, ◌∙◌, List, ap, subst, sym, true}
use Rattle.std.specs.Prelude.{Contains, Some}
use Rattle.std.specs.List.{flat_map}
use Rattle.gp_trace.specs.declared.lock_use.LockMode.{LockMode}
use Rattle.gp_window.specs.declared.schedule.EventId.{EventId}
use Rattle.gp_window.specs.Modes.{mode_before}
use Rattle.gp_window.specs.WindowForm.{WindowForm}
use Rattle.gp_stuck.specs.Cycle.{may_be_next}
use Rattle.gp_stuck.specs.Search.{cycles_from, found_cycles, takers_of}
use Rattle.gp_stuck.proofs.Notes.{nothing_found}
use Rattle.gp_stuck.proofs.Ways.{all_noted}
use Rattle.gp_stuck.proofs.waiting.Waiting.starts.Goals as goal

pub returns-clause-found : goal.returns-clause-found
returns-clause-found c =
    let window : WindowForm = c.self.inside.window.now in
    subst (λ (w : WindowForm). flat_map (cycles_from w (takers_of w)) c.as_slice.result.now ≡ found_cycles w) c.self.view_is
    (ap (flat_map (cycles_from window (takers_of window))) c.as_slice.ensures
    ∙ c.self.invariant.begun (cycles_from window (takers_of window)) (nothing_found window))

pub returns-clause-among : goal.returns-clause-among
returns-clause-among c = λ id i.
    subst (λ (w : WindowForm). Contains (takers_of w) id) c.self.view_is
    (c.self.invariant.among id (subst (λ (ids : List EventId). Contains ids id) c.as_slice.ensures i))

pub returns-clause-all : goal.returns-clause-all
returns-clause-all c =
    let window : WindowForm = c.self.inside.window.now in
    subst (λ (w : WindowForm). (id : EventId) (lock : List ℕ) (mode : LockMode) → Contains (takers_of w) id → may_be_next w id ≡ true → mode_before w id lock ≡ Some mode → Contains c.as_slice.result.now id) c.self.view_is
    (λ id lock mode among may holds. subst (λ (ids : List EventId). Contains ids id) (sym c.as_slice.ensures)
    (all_noted window (takers_of window) c.self.inside.starts c.self.inside.holders c.self.invariant id lock mode among may holds))
