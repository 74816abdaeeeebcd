-- All that the thread holds was put in.
use Rattle.std.proofs.Common.{◌∙◌, ap, sym}
use Rattle.gp_window.specs.Holders.{Holdings}
use Rattle.gp_stuck.specs.Noted.{with_all_own}
use Rattle.gp_stuck.proofs.noting.put_all_own.Goals as goal

pub returns : goal.returns
returns c = sym (ap (λ (left : Holdings). with_all_own c.args.thread c.loop-place.held left) c.in-None.ensures.steps.0) ∙ c.loop-place.invariant
