use Rattle.gp_window.specs.declared.schedule.EventId.{EventId}
use Rattle.gp_report.specs.Typed.{IsTypedId}
use Rattle.gp_report.proofs.Seen.{got_again, one_seen}
use Rattle.gp_report.proofs.fit.ids_fit.Goals as goal

pub loop-id-preserved : goal.loop-id-preserved
loop-id-preserved c =
    let none : EventId = record { thread = 0; index = 0 } in
    one_seen IsTypedId c.args.ids.now _ c.loop-id.id-index c.loop-id-test.true (got_again c.args.ids.now c.loop-id.id-index none c.loop-id-test.true) c.id_fits.ensures c.loop-id.invariant
