-- The step checks over no shared list, so it proves its clause.
use Rattle.std.proofs.Common.{◌≤◌, List, length, subst, arith}
use Rattle.gp_clause.specs.declared.lit.Lit.{Lit}
use Rattle.gp_clause.specs.Clause.{NamesBelow}
use Rattle.gp_solver_rows.proofs.Goodness.{good_by_plain}
use Rattle.gp_solver_rows.proofs.passing.is_good.Goals as goal

pub returns : goal.returns
returns c = λ passes.
    let few : length c.args.clause.now ≤ 8 = omega (arith, c.if-len-gt8.false, c.len.ensures) in
    let below : NamesBelow (length c.args.problem.now.kinds) c.args.clause.now =
    subst (λ n. NamesBelow n c.args.clause.now) c.len-2.ensures
    (subst (λ (lits : List Lit). NamesBelow c.len-2.result lits) c.lits.ensures.lits (c.are_named.ensures c.if-not-are_named.false)) in
    good_by_plain c.shares_nothing.ensures c.args.problem.now c.args.query.now c.args.clause.now c.args.certificate.now c.requires.plain c.requires.none few below
    (c.in_ok-check_certificate.ensures.0 passes)
