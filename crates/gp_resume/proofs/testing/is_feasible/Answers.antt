-- Replay tells whether the schedule is feasible.
use Rattle.std.proofs.Common.{◌≡◌, ap, Result, Ok, Err}
use Rattle.std.specs.Result.{is_ok}
use Rattle.gp_replay.specs.declared.running.ReplayFault.{ReplayFault}
use Rattle.gp_replay.specs.declared.running.ReplayFault.TheVariants.{Stuck}
use Rattle.gp_replay.specs.declared.state.State.{State}
use Rattle.gp_replay.specs.Feasible.{end_of}
use Rattle.gp_resume.proofs.testing.is_feasible.Goals as goal

pub returns-in-Ok : goal.returns-in-Ok
returns-in-Ok c =
    let ends : Ok c.in-Ok.end ≡ end_of c.args.window.now c.args.schedule.now.events = c.in-Ok.ensures (λ e. cc) in
    ap (λ (end : Result State ReplayFault). is_ok end) ends

pub returns-in-Err-Stuck : goal.returns-in-Err-Stuck
returns-in-Err-Stuck c =
    let told = rw c.in-Err-Stuck.field-0-is at c.in-Err-Stuck.ensures in
    let ends : Err (Stuck c.in-Err-Stuck._place c.in-Err-Stuck._rule) ≡ end_of c.args.window.now c.args.schedule.now.events = told (λ e. cc) in
    ap (λ (end : Result State ReplayFault). is_ok end) ends
