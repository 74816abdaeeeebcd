use Rattle.std.proofs.Common.{ap, length}
use Rattle.std.proofs.Common.{sym, subst}
use Rattle.gp_sat.specs.State.{SolverForm}
use Rattle.gp_sat.specs.Sound.{IsSound}
use Rattle.gp_sat.specs.Stepping.{IsReady}
use Rattle.gp_sat.proofs.Wholes.{whole}
use Rattle.gp_sat.proofs.solver.Solver.next_free.Goals as goal

pub invariant_of-self : goal.invariant_of-self
invariant_of-self c =
    whole c.self.inside.kernel c.next_free.new.self c.self.inside.watches c.self.inside.watches c.self.inside.marking (ap (λ (t : SolverForm). length t.values) c.next_free.ensures.same) c.self.invariant
    (subst (λ (s : SolverForm). IsReady s c.self.inside.watches) (sym c.next_free.ensures.same) c.self.invariant.ready)

pub returns-clause-sound : goal.returns-clause-sound
returns-clause-sound c = subst (λ (s : SolverForm). IsSound s) (sym c.next_free.ensures.same) c.self.invariant.ready.idle.sound
