use Rattle.std.proofs.Common.{◌≡◌, ◌<◌, ◌≤◌, ◌+◌, ◌-◌, ◌^◌, ℕ, List, arith, subst, sym}
use Rattle.std.specs.Prelude.{MatchOption}
use Rattle.gp_constraint.specs.Points.{first_of}
use Rattle.gp_constraint.proofs.Counted.{first_past, first_step}
use Rattle.gp_constraint.proofs.numbers.first_of.Goals as goal

pub returns-in_err-sum : goal.returns-in_err-sum
returns-in_err-sum c =
    let sizes : List ℕ = c.args.sizes.now in
    let i : ℕ = c.loop-place.place in
    let n : ℕ = c.args.threads in
    let within = c.loop-place.invariant.within in
    let other = c.if-place-threads.false in
    let left : i < n = omega (arith, within, other) in
    let step = first_step sizes i (i + 1) n 0 c.loop-place-test.true left (omega arith) in
    let before = c.loop-place.invariant.sum in
    let most : 2 ^ 32 ≤ first_of sizes n = omega (arith, step, before, c.in_err-sum.ensures) in
    subst (λ o. MatchOption o (2 ^ 32 ≤ first_of sizes n) (λ sum. sum ≡ first_of sizes n)) (sym c.from_residual.ensures) most

pub loop-place-preserved : goal.loop-place-preserved
loop-place-preserved c =
    let sizes : List ℕ = c.args.sizes.now in
    let i : ℕ = c.loop-place.place in
    let n : ℕ = c.args.threads in
    let within = c.loop-place.invariant.within in
    let other = c.if-place-threads.false in
    let left : i < n = omega (arith, within, other) in
    let step = first_step sizes i (i + 1) n 0 c.loop-place-test.true left (omega arith) in
    let before = c.loop-place.invariant.sum in
    record { sum = omega (arith, step, before, c.in_ok-sum.ensures); within = omega (arith, left) }

pub returns : goal.returns
returns c =
    let sizes : List ℕ = c.args.sizes.now in
    let past = first_past sizes c.loop-place.place (c.args.threads - c.loop-place.place) c.loop-place-test.false in
    let before = c.loop-place.invariant.sum in
    omega (arith, past, before)
