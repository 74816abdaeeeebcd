-- The pieces of the line, grouped as the text has them.
use Rattle.std.proofs.Common.{arith, append_assoc}
use Rattle.gp_shards.proofs.refusal.refused_in_at.Goals as goal

pub returns-clause-text : goal.returns-clause-text
returns-clause-text c = grind (arith, c.in_ok-format.ensures.ok, append_assoc)
