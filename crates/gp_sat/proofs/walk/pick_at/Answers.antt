use Rattle.std.proofs.Common.{subst, None, List, get_or, MatchOption}
use Rattle.gp_clause.specs.declared.lit.Lit.{Lit}
use Rattle.gp_sat.specs.State.{SolverForm, assigned, clause_at}
use Rattle.gp_sat.specs.Standing.{IsFalse, EachOther}
use Rattle.gp_sat.specs.Stepping.{IsPick}
use Rattle.gp_sat.proofs.walk.pick_at.Goals as goal

pub returns : goal.returns
returns c =
    subst (λ (s : SolverForm). MatchOption c.pick.result (EachOther (IsFalse (assigned s)) (clause_at s.clauses c.args.number) c.args.other) (IsPick (assigned s) (clause_at s.clauses c.args.number) c.args.other)) c.kernel.view_is
    (subst (λ (xs : List Lit). MatchOption c.pick.result (EachOther (IsFalse (λ v. get_or c.kernel.inside.values v None)) xs c.args.other) (IsPick (λ v. get_or c.kernel.inside.values v None) xs c.args.other)) c.lits.ensures.lits c.pick.ensures)
