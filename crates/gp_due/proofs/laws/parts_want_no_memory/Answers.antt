use Rattle.gp_due.proofs.Parts.{parts_say}
use Rattle.gp_due.proofs.laws.parts_want_no_memory.Goals as goal

pub returns : goal.returns
returns c = parts_say
