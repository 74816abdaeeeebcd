use Rattle.gp_due.proofs.Lines.{lines_say}
use Rattle.gp_due.proofs.laws.lines_want_no_memory.Goals as goal

pub returns : goal.returns
returns c = lines_say
