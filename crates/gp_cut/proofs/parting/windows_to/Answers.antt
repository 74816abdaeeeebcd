use Rattle.std.proofs.Common.{◌≡◌, ap, ◌+◌, ◌*◌, ℕ, arith, sum}
use Rattle.gp_cut.specs.Parts.{weight_of, weights_of}
use Rattle.gp_cut.proofs.Weighing.{no_more, one_more}
use Rattle.gp_cut.proofs.parting.windows_to.Goals as goal

pub returns-then-passed-weight : goal.returns-then-passed-weight
returns-then-passed-weight c =
    let middle : ℕ = c.loop-before.passed + c.loop-before.passed + c.weight_of-weight.result in
    let left : middle * c.from-in-loop-before.result ≡ middle * c.args.parts = ap (λ k. middle * k) c.from-in-loop-before.ensures in
    let right : 2 * c.from.result * c.whole_weight.result ≡ 2 * c.args.part * sum (weights_of c.args.recording.now) = cc in
    let none = no_more (weight_of c.args.recording.now) c.args.part c.args.parts (sum (weights_of c.args.recording.now)) c.loop-before.before c.loop-before.passed
    c.epochs-windows.result c.weight_of-weight.result c.loop-before-test.true c.weight_of-weight.ensures.value (omega (arith, left, right, c.if-passed-weight.true)) in
    omega (arith, none, c.loop-before.invariant.value)

pub loop-before-preserved : goal.loop-before-preserved
loop-before-preserved c =
    let middle : ℕ = c.loop-before.passed + c.loop-before.passed + c.weight_of-weight.result in
    let left : middle * c.from-in-loop-before.result ≡ middle * c.args.parts = ap (λ k. middle * k) c.from-in-loop-before.ensures in
    let right : 2 * c.from.result * c.whole_weight.result ≡ 2 * c.args.part * sum (weights_of c.args.recording.now) = cc in
    let one = one_more (weight_of c.args.recording.now) c.args.part c.args.parts (sum (weights_of c.args.recording.now)) c.loop-before.before c.loop-before.passed
    c.epochs-windows.result c.weight_of-weight.result c.loop-before-test.true c.weight_of-weight.ensures.value (omega (arith, left, right, c.if-passed-weight.false)) in
    record {
      value = omega (arith, one, c.loop-before.invariant.value);
      small = omega (arith, c.loop-before.invariant.small, c.weight_of-weight.ensures.small);
    }
