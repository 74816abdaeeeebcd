use Rattle.std.proofs.Common.{◌≡◌, subst, ℕ, ◌+◌, Option, Some, None, length, get_or, arith}
use Rattle.gp_sat.specs.Deciding.{IsPlaced}
use Rattle.gp_sat.proofs.Consisting.{placed_next, placed_end, placed_far, placed_in, below_order}
use Rattle.gp_sat.proofs.kernel.next_open.Goals as goal

pub after-place-requires : goal.after-place-requires
after-place-requires c =
    let placed : IsPlaced (λ v. get_or c.args.values.now v None) c.args.used c.args.queue.now (Some c.in-Some.variable) = subst (λ (o : Option ℕ). IsPlaced (λ v. get_or c.args.values.now v None) c.args.used c.args.queue.now o) c.in-Some.is c.loop.invariant.placed in
    below_order c.args.queue.now c.in-Some.variable c.len-end.ensures.numbers (placed_in (λ v. get_or c.args.values.now v None) c.args.used c.args.queue.now c.in-Some.variable placed)

pub loop-preserved : goal.loop-preserved
loop-preserved c =
    let next : (new : IsPlaced (λ v. get_or c.args.values.now v None) c.args.used c.args.queue.now c.after-place.result) × (length new.front ≡ length c.loop.invariant.placed.front + 1) =
    placed_next (λ v. get_or c.args.values.now v None) c.args.used c.args.queue.now c.loop.place c.in-Some.variable c.after-place.result c.in-Some.is c.loop.invariant.placed c.after-place.ensures.split c.if-is_open.ensures in
    record { placed = next.0; far = omega (arith, next.1, c.loop.invariant.far) }

pub returns-in-None-clause-full : goal.returns-in-None-clause-full
returns-in-None-clause-full c = λ none v below. placed_end (λ k. get_or c.args.values.now k None) c.args.used c.args.queue.now c.len-end.ensures.numbers
    (subst (λ (o : Option ℕ). IsPlaced (λ k. get_or c.args.values.now k None) c.args.used c.args.queue.now o) c.in-None.is c.loop.invariant.placed) v (omega (arith, below, c.requires.order))

pub returns-clause-placed : goal.returns-clause-placed
returns-clause-placed c = subst (λ (o : Option ℕ). IsPlaced (λ v. get_or c.args.values.now v None) c.args.used c.args.queue.now o)
    (placed_far (λ v. get_or c.args.values.now v None) c.args.used c.args.queue.now c.loop.place c.loop.invariant.placed (omega (arith, c.loop-test.false, c.loop.invariant.far, c.len-end.ensures.length))) c.loop.invariant.placed

pub returns-clause-full : goal.returns-clause-full
returns-clause-full c = λ none v below. placed_end (λ k. get_or c.args.values.now k None) c.args.used c.args.queue.now c.len-end.ensures.numbers
    (subst (λ (o : Option ℕ). IsPlaced (λ k. get_or c.args.values.now k None) c.args.used c.args.queue.now o)
    (placed_far (λ k. get_or c.args.values.now k None) c.args.used c.args.queue.now c.loop.place c.loop.invariant.placed (omega (arith, c.loop-test.false, c.loop.invariant.far, c.len-end.ensures.length))) c.loop.invariant.placed) v (omega (arith, below, c.requires.order))
