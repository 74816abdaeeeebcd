-- The refusal of the words is what is due.
use Rattle.gp_shards.proofs.Ran.{ran_words}
use Rattle.gp_shards.proofs.top.refuse_words.Goals as goal

pub returns-in-Ok-clause-run : goal.returns-in-Ok-clause-run
returns-in-Ok-clause-run g c = ran_words c.in-Ok.reply c.put_reply.result _ _ _ _ c.in-Ok.ensures c.put_reply.ensures.put c.put_reply.ensures.status
