use Rattle.std.proofs.Common.{sym, subst}
use Rattle.gp_sat.specs.State.{SolverForm, assigned}
use Rattle.gp_sat.specs.Standing.{IsFalse, Each}
use Rattle.gp_sat.proofs.solver.Solver.analyse_final.Goals as goal

pub analyse_final-requires-clause-conflict : goal.analyse_final-requires-clause-conflict
analyse_final-requires-clause-conflict c = subst (λ (s : SolverForm). Each (IsFalse (assigned s)) c.args.conflict.now) (sym c.self.view_is) c.requires
