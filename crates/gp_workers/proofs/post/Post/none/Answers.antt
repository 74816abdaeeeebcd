-- There is no inbox.
use Rattle.gp_workers.proofs.PostRenewed.{no_inbox}
use Rattle.gp_workers.proofs.post.Post.none.Goals as goal

pub returns-clause-post : goal.returns-clause-post
returns-clause-post c workers = no_inbox workers _ c.new.ensures.items c.new-2.ensures.items
