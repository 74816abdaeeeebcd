use Rattle.gp_overview.proofs.Counted.{one_record_more}
use Rattle.gp_overview.proofs.counting.with_records.Goals as goal

pub loop-told-preserved : goal.loop-told-preserved
loop-told-preserved c =
    rw c.in_ok-counts.ensures
    (one_record_more c.loop-told.counts _ c.args.records.now c.told-item.result c.loop-told.told-index c.loop-told-test.true c.told-item.is c.loop-told.invariant)
