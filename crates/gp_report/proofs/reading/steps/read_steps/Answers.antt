use Rattle.std.proofs.Common.{◌-◌, ◌+◌}
use Rattle.gp_report.specs.Reading.{read_step, read_steps}
use Rattle.gp_report.proofs.Loops.{goes_on, steps_split}
use Rattle.gp_report.proofs.reading.steps.read_steps.Goals as goal

pub loop-preserved : goal.loop-preserved
loop-preserved c =
    let left = c.args.count - (c.loop.counter + 1) in
    rw c.in_ok-push.ensures.ok
    (goes_on c.loop.steps (read_steps c.args.end (c.args.count - c.loop.counter) c.loop.lines) (read_steps c.args.end c.args.count c.args.lines.now) (read_step c.args.end c.loop.lines) (read_steps c.args.end left) c.in_ok-step.step c.read_step.new.lines
    (steps_split c.args.end c.args.count c.loop.counter c.loop.lines c.loop-test.true) c.in_ok-step.ensures c.loop.invariant)
