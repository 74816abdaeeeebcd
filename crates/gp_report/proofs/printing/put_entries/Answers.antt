use Rattle.gp_report.proofs.Texts.{one_entry}
use Rattle.gp_report.proofs.printing.put_entries.Goals as goal

pub loop-number-preserved : goal.loop-number-preserved
loop-number-preserved g c =
    rw c.in_ok-put_entry.ensures
    (one_entry g.S.Shows.lines c.loop-number.text.items _ c.args.entries.now c.index-entries-number.result c.loop-number.number c.loop-number-test.true c.index-entries-number.is c.loop-number.invariant)
