use Rattle.std.proofs.Common.{arith, append_assoc}
use Rattle.gp_predict.proofs.reply.stuck.Goals as goal

pub returns : goal.returns
returns c = grind (arith, c.in_ok-format.ensures.ok, c.number-number.ensures, append_assoc)
