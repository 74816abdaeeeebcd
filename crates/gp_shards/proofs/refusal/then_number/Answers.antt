-- The pieces of the text, grouped as it has them.
use Rattle.std.proofs.Common.{arith, append_assoc}
use Rattle.gp_shards.proofs.refusal.then_number.Goals as goal

pub returns : goal.returns
returns c = grind (arith, c.in_ok-more.ensures.ok, c.as_str-text.ensures.value, append_assoc)
