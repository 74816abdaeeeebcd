use Rattle.std.proofs.Common.{◌<◌, length, arith, get_or}
use Rattle.std.proofs.lemmas.List.{get_or_default}
use Rattle.gp_certificate.proofs.Rowing.{raising_few, raising_more, raising_all}
use Rattle.gp_certificate.proofs.loaded.raise.Goals as goal

pub overflow_add-index_mut : goal.overflow_add-index_mut
overflow_add-index_mut c =
    let n = get_or c.args.row.now c.loop-number.number-index 0 in
    let inside : n < length c.loop-number.left.items = omega (arith, c.requires.within c.loop-number.number-index 0 c.loop-number-test.true, c.loop-number.invariant.size) in
    let few = raising_few c.args.left.now.items c.loop-number.left.items c.args.row.now c.loop-number.number-index 0 18446744073709551616 c.requires.few c.loop-number-test.true c.loop-number.invariant in
    omega (arith, few, c.index_mut.ensures.value, get_or_default c.loop-number.left.items n c.index_mut.result.now 0 inside)

pub loop-number-preserved : goal.loop-number-preserved
loop-number-preserved c =
    let n = get_or c.args.row.now c.loop-number.number-index 0 in
    let inside : n < length c.loop-number.left.items = omega (arith, c.requires.within c.loop-number.number-index 0 c.loop-number-test.true, c.loop-number.invariant.size) in
    raising_more c.args.left.now.items c.loop-number.left.items c.args.row.now c.loop-number.number-index 0 _ c.requires.within c.loop-number-test.true c.loop-number.invariant
    (omega (arith, c.index_mut.ensures.value, get_or_default c.loop-number.left.items n c.index_mut.result.now 0 inside))

pub returns-clause-more : goal.returns-clause-more
returns-clause-more c = raising_all c.args.left.now.items c.loop-number.left.items c.args.row.now c.loop-number.number-index c.loop-number-test.false c.loop-number.invariant
