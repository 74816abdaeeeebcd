use Rattle.gp_sat.proofs.Choosing.{lone_short}
use Rattle.gp_sat.proofs.pending.choose.Goals as goal

pub returns-in-None-highest : goal.returns-in-None-highest
returns-in-None-highest c = (c.in-Some.ensures, c.in-None-highest.ensures, lone_short c.args.lits.now c.in-Some.one c.requires c.in-None-highest.ensures)
