-- One event more.
use Rattle.std.proofs.Common.{◌+◌, refl}
use Rattle.gp_stuck.proofs.Notes.{held_step, segment_step}
use Rattle.gp_stuck.proofs.noting.note_segment.Goals as goal

pub loop-index-preserved : goal.loop-index-preserved
loop-index-preserved c = record {
  held = held_step c.args.window.now c.args.thread c.loop-index.index c.args.segment.now c.index-segment-index.result c.loop-index.held c.use_lock.new.held c.loop-index-test.true
      c.index-segment-index.is c.in_ok-use_lock.ensures c.loop-index.invariant.held;
  noted = segment_step c.args.window.now c.args.thread c.loop-index.index (c.loop-index.index + 1) c.args.segment.now
      c.args.starts.now c.loop-index.starts c.note_event.new.starts c.args.holders.now c.loop-index.holders c.note_event.new.holders
      refl c.loop-index-test.true c.loop-index.invariant.noted c.in_ok-note_event.ensures;
}
