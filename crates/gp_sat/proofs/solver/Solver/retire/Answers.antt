use Rattle.std.proofs.Common.{length}
use Rattle.std.proofs.Common.{refl, ◌∙◌, ap}
use Rattle.gp_sat.specs.State.{SolverForm, clause_at, without_clause}
use Rattle.gp_sat.specs.Sound.{IsSound}
use Rattle.gp_sat.specs.Stepping.{IsReady}
use Rattle.gp_sat.proofs.Storing.{sound_retired}
use Rattle.gp_sat.proofs.Outer.{ready_retired}
use Rattle.gp_sat.proofs.Wholes.{whole}
use Rattle.gp_sat.proofs.solver.Solver.retire.Goals as goal

pub invariant_of-self : goal.invariant_of-self
invariant_of-self c =
    let sound : IsSound (without_clause c.self.inside.kernel c.args.number) = sound_retired c.self.inside.kernel c.args.number (clause_at c.self.inside.kernel.clauses c.args.number) refl (ap (λ (s : SolverForm). s.level) c.self.view_is ∙ c.requires.bottom) c.self.invariant.ready.idle.sound in
    whole c.self.inside.kernel c.retire.new.self c.self.inside.watches c.self.inside.watches c.self.inside.marking (ap (λ (t : SolverForm). length t.values) c.retire.ensures) c.self.invariant
    (ready_retired c.self.inside.kernel c.retire.new.self c.self.inside.watches c.args.number c.retire.ensures sound c.self.invariant.ready)

pub returns-clause-sound : goal.returns-clause-sound
returns-clause-sound c =
    let sound : IsSound (without_clause c.self.inside.kernel c.args.number) = sound_retired c.self.inside.kernel c.args.number (clause_at c.self.inside.kernel.clauses c.args.number) refl (ap (λ (s : SolverForm). s.level) c.self.view_is ∙ c.requires.bottom) c.self.invariant.ready.idle.sound in
    let ready : IsReady c.retire.new.self c.self.inside.watches = ready_retired c.self.inside.kernel c.retire.new.self c.self.inside.watches c.args.number c.retire.ensures sound c.self.invariant.ready in
    ready.idle.sound
