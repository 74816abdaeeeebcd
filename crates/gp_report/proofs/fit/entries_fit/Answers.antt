use Rattle.gp_report.specs.Records.{Entry}
use Rattle.gp_report.specs.Telling.{HasClauses}
use Rattle.gp_report.specs.Typed.{IsTypedEntry}
use Rattle.gp_report.proofs.Seen.{one_seen}
use Rattle.gp_report.proofs.fit.entries_fit.Goals as goal

pub loop-entry-preserved : goal.loop-entry-preserved
loop-entry-preserved c = (
  one_seen IsTypedEntry c.args.entries.now c.entry-item.result c.loop-entry.entry-index c.loop-entry-test.true c.entry-item.is c.entry_fits.ensures.typed c.loop-entry.invariant.0,
  one_seen (λ (entry : Entry). HasClauses entry.answer) c.args.entries.now c.entry-item.result c.loop-entry.entry-index c.loop-entry-test.true c.entry-item.is c.entry_fits.ensures.answers
      c.loop-entry.invariant.1,
)
