use Rattle.std.proofs.Common.{rules, ◌≡◌, length, arith, vec_len}
use Rattle.std.proofs.lemmas.List.{get_or_default}
use Rattle.gp_certificate.proofs.Rowing.{lowering_some, lowering_more, lowering_all}
use Rattle.gp_certificate.proofs.loaded.lower.Goals as goal

pub index_mut-requires : goal.index_mut-requires
index_mut-requires c =
    let size : vec_len c.loop-number.left ≡ length c.loop-number.left.items = search rules in
    omega (arith, size, (lowering_some c.args.left.now.items c.loop-number.left.items c.args.row.now c.loop-number.number-index 0 c.requires c.loop-number-test.true c.loop-number.invariant).0)

pub overflow_sub-index_mut : goal.overflow_sub-index_mut
overflow_sub-index_mut c =
    let some = lowering_some c.args.left.now.items c.loop-number.left.items c.args.row.now c.loop-number.number-index 0 c.requires c.loop-number-test.true c.loop-number.invariant in
    omega (arith, some.1, c.index_mut.ensures.value, get_or_default c.loop-number.left.items _ c.index_mut.result.now 0 some.0)

pub loop-number-preserved : goal.loop-number-preserved
loop-number-preserved c =
    let some = lowering_some c.args.left.now.items c.loop-number.left.items c.args.row.now c.loop-number.number-index 0 c.requires c.loop-number-test.true c.loop-number.invariant in
    lowering_more c.args.left.now.items c.loop-number.left.items c.args.row.now c.loop-number.number-index 0 _ c.requires c.loop-number-test.true c.loop-number.invariant
    (omega (arith, some.1, c.index_mut.ensures.value, get_or_default c.loop-number.left.items _ c.index_mut.result.now 0 some.0))

pub returns-clause-less : goal.returns-clause-less
returns-clause-less c = lowering_all c.args.left.now.items c.loop-number.left.items c.args.row.now c.loop-number.number-index c.loop-number-test.false c.loop-number.invariant
