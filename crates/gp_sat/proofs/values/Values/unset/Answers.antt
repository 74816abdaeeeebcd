use Rattle.std.proofs.Common.{None}
use Rattle.gp_sat.proofs.Truths.{truths_set}
use Rattle.gp_sat.proofs.values.Values.unset.Goals as goal

pub invariant_of-self : goal.invariant_of-self
invariant_of-self c = truths_set c.self.inside.truths.items c.self.inside.assigned.items c.args.variable None c.self.invariant
