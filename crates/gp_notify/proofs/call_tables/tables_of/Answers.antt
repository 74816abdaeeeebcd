use Rattle.std.proofs.Common.{refl}
use Rattle.gp_constraint.specs.Points.{points_of}
use Rattle.gp_notify.proofs.Filtered.{tables_from}
use Rattle.gp_notify.proofs.call_tables.tables_of.Goals as goal

pub returns-in-Ok : goal.returns-in-Ok
returns-in-Ok c =
    tables_from c.args.window.now (points_of c.args.window.now) c.args.called.now c.in_ok-wakes.wakes c.in_ok-wakes.notifies c.in-Ok.wakers c.in-Ok.signals
    refl c.requires c.in_ok-wakes.ensures.wakes c.in_ok-wakes.ensures.notifies c.in-Ok.ensures.wakers c.in-Ok.ensures.signals
