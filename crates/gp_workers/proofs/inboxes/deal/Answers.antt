-- One worker more has its pass.
use Rattle.std.proofs.Common.{◌≡◌, refl, length, rules, slice_set}
use Rattle.gp_workers.proofs.InboxColumns.{dealt_more}
use Rattle.gp_workers.proofs.inboxes.deal.Goals as goal

pub loop-pass-preserved : goal.loop-pass-preserved
loop-pass-preserved c =
    let invariant = c.loop-pass.invariant in
    let place : c.len-place.result ≡ length c.pop.new.self.items = search rules in
    let more = dealt_more c.args.columns.now.items c.loop-pass.columns.items (slice_set c.loop-pass.columns.items c.len-place.result c.push.new.self) c.args.row.items c.loop-pass.row.items c.pop.new.self.items c.len-place.result c.index_mut.result.now
    c.push.new.self c.in-Some.pass c.in-Some.ensures.items place invariant.len invariant.few invariant.left invariant.early invariant.late c.index_mut.ensures.value refl c.in_ok-push.ensures.items in
    record { len = more.0; few = more.1; left = more.2; early = more.3; late = more.4 }
