use Rattle.std.proofs.Common.{arith, rules}
use Rattle.gp_text.proofs.Checks.{goes_on}
use Rattle.gp_text.proofs.lines.check_text.Goals as goal

pub loop-line-preserved : goal.loop-line-preserved
loop-line-preserved c = (
  goes_on c.loop-line.number c.loop-line.rest.now c.in-Some.line.now c.in-Some.after.now _
      c.in-Some.ensures.parts (search rules) c.loop-line.invariant.0,
  omega (arith, c.in-Some.ensures.shorter),
)
