use Rattle.std.proofs.Common.{ap, length}
use Rattle.gp_sat.specs.State.{SolverForm}
use Rattle.gp_queue.specs.Order.{moved_to_front}
use Rattle.gp_sat.specs.Stepping.{IsReady}
use Rattle.gp_sat.proofs.Outer.{ready_ordered}
use Rattle.gp_sat.proofs.Wholes.{whole}
use Rattle.gp_sat.proofs.solver.Solver.raise.Goals as goal

pub invariant_of-self : goal.invariant_of-self
invariant_of-self c =
    whole c.self.inside.kernel c.raise.new.self c.self.inside.watches c.self.inside.watches c.self.inside.marking (ap (λ (t : SolverForm). length t.values) c.raise.ensures) c.self.invariant
    (ready_ordered c.self.inside.kernel c.raise.new.self c.self.inside.watches (moved_to_front c.args.variable c.self.inside.kernel.order) (c.self.inside.kernel.used) c.raise.ensures c.self.invariant.ready)

pub returns-clause-sound : goal.returns-clause-sound
returns-clause-sound c =
    let ready : IsReady c.raise.new.self c.self.inside.watches = ready_ordered c.self.inside.kernel c.raise.new.self c.self.inside.watches (moved_to_front c.args.variable c.self.inside.kernel.order) (c.self.inside.kernel.used) c.raise.ensures c.self.invariant.ready in
    ready.idle.sound
