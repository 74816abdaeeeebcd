use Rattle.std.proofs.Common.{◌≡◌, ◌-◌, ◌*◌, arith}
use Rattle.gp_make.specs.Run.{events_before}
use Rattle.gp_make.proofs.Runs.{event_grown, next_event, next_program, window_grown}
use Rattle.gp_make.proofs.making.run_window.Goals as goal

pub loop-number-preserved : goal.loop-number-preserved
loop-number-preserved c =
    let recipe = c.args.recipe.now in
    let n = c.loop-number.number in
    let begun = c.loop-number.invariant.begun in
    record {
      begun = next_program recipe n c.loop-number.program c.step-event.new.self begun c.step-event.ensures.after;
      put = event_grown recipe c.args.traces.now c.loop-number.traces c.put_event.new.traces c.step-event.result ((c.args.window - 1) * 200) n (omega arith)
          (next_event recipe n c.loop-number.program c.step-event.result begun c.step-event.ensures.event)
          c.loop-number.invariant.put c.in_ok-put_event.ensures;
    }

pub returns-clause-traces : goal.returns-clause-traces
returns-clause-traces c =
    let recipe = c.args.recipe.now in
    let first = (c.args.window - 1) * 200 in
    let begins : first ≡ events_before c.args.window = omega arith in
    window_grown recipe c.args.traces.now c.loop-number.traces c.args.window first (c.loop-number.number - first) begins (omega arith) c.loop-number.invariant.put
