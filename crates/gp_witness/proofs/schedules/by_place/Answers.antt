use Rattle.std.proofs.Common.{subst}
use Rattle.std.specs.Prelude.{IfOk}
use Rattle.gp_window.specs.WindowForm.{WindowForm}
use Rattle.gp_witness.specs.Witness.{IsByPlace}
use Rattle.gp_witness.proofs.schedules.by_place.Goals as goal

pub returns : goal.returns
returns c =
    subst (λ (window : WindowForm). IfOk c.executed_events.result (λ schedule. IsByPlace window c.args.valuation.now schedule.events)) c.window.ensures.window c.executed_events.ensures
