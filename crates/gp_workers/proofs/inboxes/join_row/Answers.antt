-- One pass more is joined.
use Rattle.std.proofs.Common.{◌≡◌, refl, length, rules, slice_set}
use Rattle.gp_workers.proofs.InboxJoins.{into_own, joined_more, other_own}
use Rattle.gp_workers.proofs.inboxes.join_row.Goals as goal

pub rejoin-requires-clause-into : goal.rejoin-requires-clause-into
rejoin-requires-clause-into c =
    let invariant = c.loop-pass.invariant in
    let place : c.len-place.result ≡ length c.pop.new.self.items = search rules in
    into_own c.args.inboxes.now c.args.joined.now.items c.loop-pass.joined.items c.args.row.items c.loop-pass.row.items c.pop.new.self.items c.len-place.result c.index-inboxes-place.result c.index_mut.result.now c.in-Some.pass c.in-Some.ensures.items place
    invariant.few invariant.own invariant.left invariant.early c.index-inboxes-place.is c.index_mut.ensures.value

pub rejoin-requires-clause-other : goal.rejoin-requires-clause-other
rejoin-requires-clause-other c =
    let invariant = c.loop-pass.invariant in
    let place : c.len-place.result ≡ length c.pop.new.self.items = search rules in
    other_own c.args.inboxes.now c.args.joined.now.items c.loop-pass.joined.items c.args.row.items c.loop-pass.row.items c.pop.new.self.items c.len-place.result c.index-inboxes-place.result c.index_mut.result.now c.in-Some.pass c.in-Some.ensures.items place
    invariant.few invariant.own invariant.left invariant.early c.index-inboxes-place.is c.index_mut.ensures.value c.requires.row

pub loop-pass-preserved : goal.loop-pass-preserved
loop-pass-preserved c =
    let invariant = c.loop-pass.invariant in
    let place : c.len-place.result ≡ length c.pop.new.self.items = search rules in
    let more = joined_more c.args.inboxes.now c.args.joined.now.items c.loop-pass.joined.items c.args.row.items c.loop-pass.row.items c.pop.new.self.items c.len-place.result c.index-inboxes-place.result c.index_mut.result.now c.in-Some.pass c.in-Some.ensures.items
    place invariant.few invariant.own invariant.left invariant.early c.index-inboxes-place.is c.index_mut.ensures.value
    c.rejoin.new.into (slice_set c.loop-pass.joined.items c.len-place.result c.rejoin.new.into) refl invariant.late c.rejoin.ensures.own c.rejoin.ensures.both in
    record { own = more.0; few = more.1; left = more.2; early = more.3; late = more.4 }
