use Rattle.std.proofs.Common.{arith}
use Rattle.gp_text.proofs.Digits.{IsNext, next_digit}
use Rattle.gp_text.proofs.numbers.value_of.Goals as goal

-- the number with the next digit is over 2^64 already, and the whole is no less
pub returns-in_err-checked_mul : goal.returns-in_err-checked_mul
returns-in_err-checked_mul c =
    let next : IsNext c.args.digits.now c.loop-digit.digit-index =
    next_digit c.args.digits.now c.loop-digit.digit-index c.requires c.loop-digit-test.true in
    rw c.from_residual.ensures
    (λ small. c.in_err-checked_mul.ensures (omega (arith, next.value, next.bound, c.loop-digit.invariant.0)))
