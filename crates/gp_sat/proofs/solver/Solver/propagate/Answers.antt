use Rattle.gp_sat.proofs.Wholes.{whole}
use Rattle.gp_sat.proofs.solver.Solver.propagate.Goals as goal

pub returns-clause-sound : goal.returns-clause-sound
returns-clause-sound c = c.run.ensures.ready.idle.sound

pub invariant_of-self : goal.invariant_of-self
invariant_of-self c = whole c.self.inside.kernel c.run.new.kernel c.self.inside.watches c.run.new.watches c.self.inside.marking c.run.ensures.added.variables c.self.invariant c.run.ensures.ready
