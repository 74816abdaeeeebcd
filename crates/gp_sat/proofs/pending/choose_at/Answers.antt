use Rattle.std.proofs.Common.{subst, None, List, get_or}
use Rattle.gp_clause.specs.declared.lit.Lit.{Lit}
use Rattle.gp_sat.specs.State.{SolverForm, assigned, clause_at}
use Rattle.gp_sat.specs.Choosing.{ChosenAs}
use Rattle.gp_sat.proofs.pending.choose_at.Goals as goal

pub returns : goal.returns
returns c =
    subst (λ (s : SolverForm). ChosenAs (assigned s) (clause_at s.clauses c.args.number) c.choose.result) c.kernel.view_is
    (subst (λ (xs : List Lit). ChosenAs (λ v. get_or c.kernel.inside.values v None) xs c.choose.result) c.lits.ensures.lits c.choose.ensures)
