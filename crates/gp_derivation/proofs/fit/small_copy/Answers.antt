use Rattle.gp_derivation.proofs.Rooms.{full_unfit}
use Rattle.gp_derivation.proofs.fit.small_copy.Goals as goal

pub returns-in-None : goal.returns-in-None
returns-in-None c = full_unfit c.args.problem.now c.args.certificate.now c.len.result c.whole.result c.as_slice-steps.result.now c.len.ensures c.whole.ensures c.as_slice-steps.ensures c.in-None.ensures
