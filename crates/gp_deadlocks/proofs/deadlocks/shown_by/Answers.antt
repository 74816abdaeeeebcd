use Rattle.std.proofs.Common.{subst}
use Rattle.gp_window.specs.WindowForm.{IsWindow}
use Rattle.gp_deadlocks.proofs.Joined.{solves_window}
use Rattle.gp_deadlocks.proofs.deadlocks.shown_by.Goals as goal

pub executed_of-requires : goal.executed_of-requires
executed_of-requires c = solves_window c.args.encoded.now c.args.cycle.now.events c.args.valuation.now c.requires.meets

pub returns : goal.returns
returns c =
    c.stuck_cycles_are_answered.ensures.ends c.args.encoded.now c.args.cycle.now.events c.args.valuation.now c.in_ok-schedule.schedule.events
    (subst IsWindow c.window.ensures.window c.comes_from_recording.ensures) c.requires.cycle c.requires.meets c.in_ok-schedule.ensures.order
