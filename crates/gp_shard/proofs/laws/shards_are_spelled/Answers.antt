use Rattle.gp_shard.proofs.Spelled.{read_is_spelled, spelled_is_read}
use Rattle.gp_shard.proofs.laws.shards_are_spelled.Goals as goal

pub returns : goal.returns
returns c = λ last lines s. (read_is_spelled c.one_spelling.ensures last lines s, spelled_is_read c.one_spelling.ensures last lines s)
