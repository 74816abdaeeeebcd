use Rattle.gp_due.proofs.Contents.{contents_say}
use Rattle.gp_due.proofs.laws.contents_want_no_memory.Goals as goal

pub returns : goal.returns
returns c = contents_say
