use Rattle.gp_sat.proofs.Leading.{lowest_tells}
use Rattle.gp_sat.proofs.kernel.Kernel.has_marked.Goals as goal

pub returns : goal.returns
returns c = lowest_tells c.args.self.now c.args.marks.now c.args.lowest c.args.place c.requires.within c.requires.lowest
