use Rattle.std.proofs.Common.{arith}
use Rattle.std.proofs.lemmas.List.{take_rest}
use Rattle.gp_text.proofs.Cuts.{cut_here, no_cut}
use Rattle.gp_text.proofs.parts.cut.Goals as goal

pub returns-then-byte-at-clause-parts : goal.returns-then-byte-at-clause-parts
returns-then-byte-at-clause-parts c =
    rw take_rest (cut_here c.args.at c.args.bytes.now c.loop-i.i c.loop-i-test.true c.loop-i.invariant c.if-byte-at.true)

pub returns-clause-parts : goal.returns-clause-parts
returns-clause-parts c =
    no_cut c.args.at c.args.bytes.now (λ k lt. c.loop-i.invariant k (omega (arith, c.loop-i-test.false)))
