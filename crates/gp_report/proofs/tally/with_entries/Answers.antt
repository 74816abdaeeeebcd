use Rattle.gp_report.proofs.Tallies.{one_entry}
use Rattle.gp_report.proofs.tally.with_entries.Goals as goal

pub loop-entry-preserved : goal.loop-entry-preserved
loop-entry-preserved g c =
    rw c.in_ok-tally.ensures
    (one_entry c.loop-entry.tally _ c.args.entries.now c.entry-item.result c.loop-entry.entry-index c.loop-entry-test.true c.entry-item.is c.loop-entry.invariant)
