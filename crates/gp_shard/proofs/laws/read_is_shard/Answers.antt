use Rattle.gp_shard.proofs.Spelled.{read_keeps}
use Rattle.gp_shard.proofs.laws.read_is_shard.Goals as goal

pub returns : goal.returns
returns c = read_keeps c.one_spelling.ensures
