use Rattle.std.proofs.Common.{◌∙◌, Option, List, length}
use Rattle.std.proofs.lemmas.List.{length-map}
use Rattle.gp_sat.specs.declared.assigned.Assigned.{Assigned}
use Rattle.gp_sat.specs.State.{kept_to}
use Rattle.std.proofs.Common.{ap, arith}
use Rattle.gp_sat.specs.State.{SolverForm}
use Rattle.gp_sat.proofs.Outer.{ready_cut}
use Rattle.gp_sat.proofs.Wholes.{whole}
use Rattle.gp_sat.proofs.solver.Solver.backjump.Goals as goal

pub invariant_of-self : goal.invariant_of-self
invariant_of-self c =
    whole c.self.inside.kernel c.backjump.new.self c.self.inside.watches c.fall_back.new.self c.self.inside.marking (ap (λ (vs : List (Option Assigned)). length vs) c.backjump.ensures.back.values ∙ length-map c.self.inside.kernel.values (kept_to c.args.level)) c.self.invariant
    (ready_cut c.self.inside.kernel c.backjump.new.self c.self.inside.watches c.fall_back.new.self c.args.level c.trail-end.result.now
    (omega (arith, c.requires, ap (λ (s : SolverForm). s.level) c.self.view_is)) c.trail-end.ensures.sound c.backjump.ensures.back c.trail-end.ensures.trail c.fall_back.ensures c.self.invariant.ready)
