use Rattle.std.proofs.Common.{◌≡◌, sym, subst, Err}
use Rattle.gp_replay.specs.declared.running.ReplayFault.TheVariants.{Stuck}
use Rattle.gp_replay.specs.Feasible.{end_of}
use Rattle.gp_checker.specs.declared.failure.Failure.{Failure}
use Rattle.gp_deadlock_checker.specs.Rejected.{FailsSchedule}
use Rattle.gp_deadlock_checker.proofs.schedule.check_schedule.Goals as goal

pub returns-in-Err-Stuck : goal.returns-in-Err-Stuck
returns-in-Err-Stuck c =
    let window = c.args.window.now in
    let schedule = c.args.schedule.now.events in
    let told = rw c.in-Err-Stuck.field-0-is at c.in-Err-Stuck.ensures in
    let fault : end_of window schedule ≡ Err (Stuck c.in-Err-Stuck.place c.in-Err-Stuck._rule) = sym (told (λ e. cc)) in
    subst (λ (failure : Failure). FailsSchedule window c.args.cycle.now.events schedule failure.reason failure.place) (sym c.of.ensures)
    (c.in-Err-Stuck._rule, (c.laws.ensures.replay.stuck window schedule c.in-Err-Stuck.place c.in-Err-Stuck._rule).0 fault)
