use Rattle.gp_sharing.specs.Compacted.{with_entries}
use Rattle.gp_compact.proofs.Walks.{entry_left, entry_more}
use Rattle.gp_compact.proofs.sharing.share_entries.Goals as goal

pub loop-entry-preserved : goal.loop-entry-preserved
loop-entry-preserved c = (
  entry_more c.args.sizes c.loop-entry.list c.args.entries.now c.entry-item.result c.loop-entry.entry-index (with_entries c.args.sizes c.args.list.now c.args.entries.now) c.share_answer.new.list
      c.loop-entry-test.true c.entry-item.is c.in_ok-share_answer.ensures c.loop-entry.invariant.0,
  entry_left c.args.sizes c.loop-entry.list c.args.entries.now c.entry-item.result c.loop-entry.entry-index c.share_answer.new.list c.loop-entry-test.true c.entry-item.is
      c.in_ok-share_answer.ensures c.loop-entry.invariant.1,
)
