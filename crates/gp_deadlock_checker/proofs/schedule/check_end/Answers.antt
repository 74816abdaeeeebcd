use Rattle.std.proofs.Common.{◌≡◌, refl, sym, ◌∙◌, subst, true, false, List}
use Rattle.gp_checker.specs.declared.failure.Failure.{Failure}
use Rattle.gp_window.specs.declared.schedule.EventId.{EventId}
use Rattle.gp_deadlock_checker.specs.Finds.{are_next}
use Rattle.gp_deadlock_checker.specs.Rejected.{FailsSchedule}
use Rattle.gp_deadlock_checker.proofs.Ended.{ends_apart, ends_stuck}
use Rattle.gp_deadlock_checker.proofs.schedule.check_end.Goals as goal

pub returns-then-are_next : goal.returns-then-are_next
returns-then-are_next c =
    let ids = c.args.cycle.now.events in
    let told : are_next c.args.end.now ids ≡ true =
    subst (λ (list : List EventId). are_next c.args.end.now list ≡ true) c.as_slice.ensures (sym c.are_next.ensures ∙ c.if-are_next.true) in
    ends_stuck c.laws.ensures c.args.window.now ids c.args._schedule.now.events c.args.end.now c.comes_from_recording.ensures c.requires.cycle c.requires.runs told

pub returns : goal.returns
returns c =
    let window = c.args.window.now in
    let ids = c.args.cycle.now.events in
    let schedule = c.args._schedule.now.events in
    let told : are_next c.args.end.now ids ≡ false =
    subst (λ (list : List EventId). are_next c.args.end.now list ≡ false) c.as_slice.ensures (sym c.are_next.ensures ∙ c.if-are_next.false) in
    subst (λ (failure : Failure). FailsSchedule window ids schedule failure.reason failure.place) (sym c.of.ensures)
    ((c.args.end.now, c.requires.runs), ends_apart c.laws.ensures window ids schedule c.args.end.now c.requires.runs told, refl)
