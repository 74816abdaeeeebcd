-- One event more goes from what is left to what is put.
use Rattle.std.proofs.Common.{◌+◌}
use Rattle.std.proofs.lemmas.List.{get_or_default}
use Rattle.gp_sarif.specs.Flows.{is_step_of, step_value}
use Rattle.gp_sarif.proofs.Kept.{numbered_put}
use Rattle.gp_sarif.proofs.flow.put_steps.Goals as goal

pub loop-behind-preserved : goal.loop-behind-preserved
loop-behind-preserved c =
    rw (c.in_ok-before.ensures.put, c.in_ok-before.ensures.count)
    (numbered_put (step_value c.args.places.now c.args.window.now) (is_step_of c.args.thread) c.loop-behind.text.items _ c.loop-behind.before c.args.schedule.now _ c.loop-behind.behind (c.loop-behind.behind + 1) c.loop-behind-test.true (get_or_default c.args.schedule.now c.loop-behind.behind _ _ c.loop-behind-test.true) c.loop-behind.invariant)
