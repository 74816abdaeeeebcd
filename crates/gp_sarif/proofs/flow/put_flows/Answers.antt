-- One thread more goes from what is left to what is put.
use Rattle.std.proofs.Common.{◌≡◌, ◌+◌, ◌-◌, suc, ap, arith, length}
use Rattle.gp_sarif.specs.Flows.{acts, flow_value}
use Rattle.gp_sarif.proofs.Kept.{number_put}
use Rattle.gp_sarif.proofs.flow.put_flows.Goals as goal

pub loop-behind-preserved : goal.loop-behind-preserved
loop-behind-preserved c =
    let size : length c.segments-behind-end.result.now ≡ length c.args.window.now.segments = ap (λ segments. length segments) c.segments-behind-end.ensures.value in
    let more : length c.args.window.now.segments - c.loop-behind.behind ≡ suc (length c.args.window.now.segments - (c.loop-behind.behind + 1)) = omega (arith, size, c.loop-behind-test.true) in
    rw (c.in_ok-before.ensures.put, c.in_ok-before.ensures.count)
    (number_put (flow_value c.args.places.now c.args.window.now c.args.schedule.now) (acts c.args.schedule.now) c.loop-behind.text.items _ c.loop-behind.before (c.loop-behind.behind + 1) _ _ more c.loop-behind.invariant)
