use Rattle.std.proofs.Common.{◌≡◌, ℕ, ◌-◌, ◌/◌, ◌<◌, length, ap, ◌∙◌, sym, subst, List, ◌≤ℤ◌, arith}
use Rattle.std.proofs.lemmas.Int.{ints}
use Rattle.std.proofs.lemmas.List.Edits.{length-swap}
use Rattle.gp_difference.specs.Falls.{IsBelow, MayRise, fall_at}
use Rattle.gp_difference.proofs.HeapLemmas.{rise_ends, rise_more, number_moves}
use Rattle.gp_difference.proofs.falls.rise.Goals as goal

pub returns-then-number-number_at : goal.returns-then-number-number_at
returns-then-number-number_at c = λ count may.
    let falls = c.args.numbers.now in
    let order = c.loop-spot.order in
    let spot = c.loop-spot.spot in
    let le : fall_at falls order spot ≤ℤ fall_at falls order ((spot - 1) / 2) =
    omega (arith, ints, c.loop-spot.invariant.number, c.number_at.ensures, c.number_at.type_inv, c.if-number-number_at.true) in
    rise_ends falls order count spot (c.loop-spot.invariant.rise count may) (λ above is.
    let e : (spot - 1) / 2 ≡ above = omega (arith, is) in subst (λ k. fall_at falls order spot ≤ℤ fall_at falls order k) e le)

pub loop-spot-preserved : goal.loop-spot-preserved
loop-spot-preserved c =
    let falls = c.args.numbers.now in
    let order = c.loop-spot.order in
    let spot = c.loop-spot.spot in
    let up = (spot - 1) / 2 in
    let inv = c.loop-spot.invariant in
    let some : 0 < spot = c.loop-spot-test.true in
    let is : IsBelow up spot = (omega (arith, some), omega (arith, some)) in
    let lt : fall_at falls order up ≤ℤ fall_at falls order spot = omega (arith, ints, inv.number, c.number_at.ensures, c.number_at.type_inv, c.if-number-number_at.false) in
    let size : length c.exchange.new.self ≡ length order = ap length c.exchange.ensures ∙ length-swap order spot up in
    record {
      size = size ∙ inv.size;
      within = omega (arith, size, inv.within, some);
      number = inv.number ∙ number_moves falls order c.exchange.new.self spot up inv.within (omega (arith, inv.within)) c.exchange.ensures;
      rise = λ count may. subst (λ (now : List ℕ). MayRise falls now count up) (sym c.exchange.ensures) (rise_more falls order count spot up (inv.rise count may) is lt);
    }

pub returns : goal.returns
returns c = λ count may. rise_ends _ _ count _ (c.loop-spot.invariant.rise count may) (λ above is. absurd (omega (arith, is, c.loop-spot-test.false)))
