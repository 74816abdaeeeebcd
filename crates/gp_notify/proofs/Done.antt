-- What is done before an event of a feasible schedule.
use Rattle.std.proofs.Common.{◌≡◌, ◌<◌, ap, subst, List, ◌∷◌, true, arith}
use Rattle.gp_window.specs.declared.schedule.EventId.{EventId}
use Rattle.gp_window.specs.IdLaws.{contains_means}
use Rattle.gp_window.specs.Ids.{contains_event}
use Rattle.gp_window.specs.WindowForm.{WindowForm}
use Rattle.gp_replay.specs.CountedLaws.{in_from_counted}
use Rattle.gp_replay.specs.Feasible.{IsFeasible, Runs}
use Rattle.gp_replay.specs.RunLaws.{runs_split}
use Rattle.gp_replay.specs.Step.{count_of, start_state}
use Rattle.gp_replay.specs.StepLaws.{stepped}
use Rattle.gp_constraint.specs.StandingLaws.{before_of, found}

-- an event of the same thread with a lesser index is done before
pub done_before : (window : WindowForm) (ids : List EventId) (e f : EventId) → IsFeasible window ids → contains_event ids f ≡ true → e.thread ≡ f.thread → e.index < f.index
    → contains_event (before_of ids f) e ≡ true
done_before window ids e f feasible there same below =
    let split = found ids f there in
    let parts = runs_split window (start_state window) feasible.0 (before_of ids f) (f ∷ split.0) (subst (λ all. Runs window (start_state window) all feasible.0) split.1 feasible.1) in
    let turn : count_of parts.0 f.thread ≡ f.index = (stepped window parts.0 parts.2.0 f parts.2.1).turn in
    let own : count_of parts.0 e.thread ≡ count_of parts.0 f.thread = ap (λ t. count_of parts.0 t) same in
    (contains_means (before_of ids f) e).1 (in_from_counted window parts.0 (before_of ids f) e parts.1 (omega (arith, turn, own, below)))
