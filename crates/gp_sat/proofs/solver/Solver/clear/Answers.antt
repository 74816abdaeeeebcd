use Rattle.std.proofs.Common.{◌∙◌, ap, None, length}
use Rattle.std.proofs.lemmas.List.{length-replicate}
use Rattle.gp_sat.specs.State.{SolverForm}
use Rattle.gp_sat.specs.Stepping.{IsReady}
use Rattle.gp_sat.proofs.Outer.{ready_cleared}
use Rattle.gp_sat.proofs.Wholes.{whole}
use Rattle.gp_sat.proofs.solver.Solver.clear.Goals as goal

pub invariant_of-self : goal.invariant_of-self
invariant_of-self c =
    whole c.self.inside.kernel c.clear.new.self c.self.inside.watches c.restart.new.self c.self.inside.marking (ap (λ (t : SolverForm). length t.values) c.clear.ensures ∙ length-replicate (length c.self.inside.kernel.values) None) c.self.invariant
    (ready_cleared c.self.inside.kernel c.clear.new.self c.self.inside.watches c.restart.new.self c.clear.ensures c.restart.ensures c.self.invariant.ready)

pub returns-clause-sound : goal.returns-clause-sound
returns-clause-sound c =
    let ready : IsReady c.clear.new.self c.restart.new.self = ready_cleared c.self.inside.kernel c.clear.new.self c.self.inside.watches c.restart.new.self c.clear.ensures c.restart.ensures c.self.invariant.ready in
    ready.idle.sound
