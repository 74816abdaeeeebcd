use Rattle.gp_sat.proofs.Truths.{truths_first}
use Rattle.gp_sat.proofs.values.Values.truncate.Goals as goal

pub invariant_of-self : goal.invariant_of-self
invariant_of-self c = truths_first c.self.inside.truths.items c.truncate-2.new.self.items c.self.inside.assigned.items c.truncate.new.self.items c.args.count c.truncate-2.ensures.items c.truncate.ensures.items c.self.invariant
