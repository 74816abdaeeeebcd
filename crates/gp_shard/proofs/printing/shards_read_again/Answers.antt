use Rattle.gp_shard.proofs.Again.{read_again}
use Rattle.gp_shard.proofs.printing.shards_read_again.Goals as goal

pub returns : goal.returns
returns c = read_again c.one_spelling.ensures c.plain_words.ensures c.reads_again.ensures
