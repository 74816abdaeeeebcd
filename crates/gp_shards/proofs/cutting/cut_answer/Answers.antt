-- The pieces of the line, grouped as the text has them.
use Rattle.std.proofs.Common.{arith, append_assoc}
use Rattle.gp_shards.proofs.cutting.cut_answer.Goals as goal

pub returns : goal.returns
returns c = grind (arith, c.in_ok-format.ensures.ok, append_assoc)
