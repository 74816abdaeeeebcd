use Rattle.std.proofs.Common.{◌∙◌, ap, sym}
use Rattle.gp_notify.specs.Signals.{point_before}
use Rattle.gp_notify.proofs.Behind.{sleep_at}
use Rattle.gp_notify.proofs.wake_sleeps.sleep_of.Goals as goal

pub returns-in-Some : goal.returns-in-Some
returns-in-Some c =
    c.point_before.ensures
    ∙ sleep_at c.args.window.now c.args.points.now c.args.w.now c.in-Some.index c.requires.points c.requires.wake (sym c.sleep_index.ensures ∙ c.in-Some.is)

pub returns-in-None : goal.returns-in-None
returns-in-None c = sym (ap (point_before c.args.window.now c.args.w.now) (sym c.sleep_index.ensures ∙ c.in-None.is))
