-- One inbox more is drained.
use Rattle.std.proofs.Common.{◌≡◌, refl, sym, ◌∙◌, ◌<◌, Some, length, slice_set, arith}
use Rattle.std.specs.List.{slice_get}
use Rattle.std.proofs.lemmas.Option.{slice_get_within}
use Rattle.gp_workers.specs.Inboxes.{DrainsAt}
use Rattle.gp_workers.proofs.DeskPasses.{got_at}
use Rattle.gp_workers.proofs.InboxJoins.{each_set}
use Rattle.gp_workers.proofs.InboxPlaces.{done_below}
use Rattle.gp_workers.proofs.inboxes.drain_all.Goals as goal

pub drain-requires-clause-own : goal.drain-requires-clause-own
drain-requires-clause-own g c =
    let place = c.loop-place.place in
    let own = c.loop-place.invariant.own in
    let there : place < length c.loop-place.passes.items = omega (arith, c.loop-place-test.true, own.len) in
    own.each place c.index-inboxes-place.result c.index_mut.result.now (got_at c.args.inboxes.now place c.index-inboxes-place.result c.loop-place-test.true c.index-inboxes-place.is)
    (got_at c.loop-place.passes.items place c.index_mut.result.now there c.index_mut.ensures.value)

pub drain-requires-clause-taker : goal.drain-requires-clause-taker
drain-requires-clause-taker g c =
    let place = c.loop-place.place in
    let there : place < length c.loop-place.passes.items = omega (arith, c.loop-place-test.true, c.loop-place.invariant.own.len) in
    c.requires.takers place c.index_mut.result.now
    (sym (c.loop-place.invariant.late place (omega arith)) ∙ got_at c.loop-place.passes.items place c.index_mut.result.now there c.index_mut.ensures.value)

pub loop-place-preserved : goal.loop-place-preserved
loop-place-preserved g c =
    let place = c.loop-place.place in
    let passes = c.loop-place.passes.items in
    let old = c.args.passes.now.items in
    let invariant = c.loop-place.invariant in
    let there : place < length passes = omega (arith, c.loop-place-test.true, invariant.own.len) in
    let before : slice_get old place ≡ Some c.index_mut.result.now = sym (invariant.late place (omega arith)) ∙ got_at passes place c.index_mut.result.now there c.index_mut.ensures.value in
    let done = done_below (DrainsAt old) old passes (slice_set passes place c.drain.new.pass) place c.drain.new.pass there refl invariant.early invariant.late
    (record { before = c.index_mut.result.now; is = before; drains = c.drain.ensures.all }) in
    record {
      own = each_set c.args.inboxes.now passes (slice_set passes place c.drain.new.pass) place c.index-inboxes-place.result c.drain.new.pass invariant.own refl
          (got_at c.args.inboxes.now place c.index-inboxes-place.result c.loop-place-test.true c.index-inboxes-place.is) c.drain.ensures.own;
      early = done.0;
      late = done.1;
    }

pub returns-clause-each : goal.returns-clause-each
returns-clause-each g c = λ place pass got.
    c.loop-place.invariant.early place pass (let within = slice_get_within c.loop-place.passes.items place pass got in omega (arith, within, c.loop-place-test.false, c.loop-place.invariant.own.len)) got
