-- One thread more.
use Rattle.std.proofs.Common.{◌≡◌, ◌∙◌, ◌+◌, ◌<◌, ap, arith, length}
use Rattle.gp_window.specs.WindowForm.{numbers_from}
use Rattle.gp_story.specs.Deeds.{variable_of}
use Rattle.gp_story.specs.Touched.{lock_used, with_events, with_threads}
use Rattle.gp_story.proofs.Touching.{one_thread}
use Rattle.gp_story.proofs.sharing.touch_all.Goals as goal

pub loop-thread-preserved : goal.loop-thread-preserved
loop-thread-preserved c =
    let size : length c.segments.result.now ≡ length c.args.window.now.segments = ap (λ segments. length segments) c.segments.ensures.value in
    let below : c.loop-thread.thread < length c.args.window.now.segments + 1 = omega (arith, size, c.loop-thread-test.true) in
    record {
      variables = one_thread variable_of c.args.window.now c.loop-thread.variables c.touch_events.new.variables
          (with_threads variable_of c.args.window.now c.args.variables.now (numbers_from 1 (length c.args.window.now.segments)))
          c.loop-thread.thread (length c.args.window.now.segments) below
          (c.in_ok-touch_events.ensures.variables ∙ ap (with_events variable_of c.loop-thread.thread c.loop-thread.variables) c.segment.ensures) c.loop-thread.invariant.variables;
      locks = one_thread lock_used c.args.window.now c.loop-thread.locks c.touch_events.new.locks
          (with_threads lock_used c.args.window.now c.args.locks.now (numbers_from 1 (length c.args.window.now.segments)))
          c.loop-thread.thread (length c.args.window.now.segments) below
          (c.in_ok-touch_events.ensures.locks ∙ ap (with_events lock_used c.loop-thread.thread c.loop-thread.locks) c.segment.ensures) c.loop-thread.invariant.locks;
    }
