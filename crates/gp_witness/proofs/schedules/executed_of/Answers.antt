use Rattle.std.proofs.Common.{subst}
use Rattle.std.specs.Prelude.{[]}
use Rattle.std.proofs.lemmas.Result.{IfOk-weaker}
use Rattle.gp_window.specs.declared.schedule.Schedule.{Schedule}
use Rattle.gp_window.specs.WindowForm.{IsWindow, WindowForm}
use Rattle.gp_witness.specs.Witness.{IsByPlace}
use Rattle.gp_witness.proofs.schedules.executed_of.Goals as goal

pub returns-clause-feasible : goal.returns-clause-feasible
returns-clause-feasible c =
    let window : WindowForm = c.args.encoded.now in
    let is : IsWindow window = subst IsWindow c.window.ensures.window c.comes_from_recording.ensures in
    let feasible = λ (schedule : Schedule) (order : IsByPlace window c.args.valuation.now schedule.events). c.witnesses_are_sound.ensures.base window (record { locals = []; assumed = [] }) c.args.valuation.now schedule.events is c.requires order in
    IfOk-weaker _ _ _ feasible c.by_place.ensures
