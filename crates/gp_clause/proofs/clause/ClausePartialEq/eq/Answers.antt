use Rattle.std.proofs.Common.{◌≡◌, rules}
use Rattle.std.specs.Cmp.Lexicographic.{pointwise}
use Rattle.gp_clause.specs.Lit.{lit_eq}
use Rattle.gp_clause.specs.LitLaws.{lits_decide}
use Rattle.gp_clause.proofs.clause.ClausePartialEq.eq.Goals as goal

pub returns-clause-same : goal.returns-clause-same
returns-clause-same c =
    let told : c.eq.result ≡ pointwise lit_eq c.args.self.now c.args.other.now = search rules in
    rw told (lits_decide c.args.self.now c.args.other.now)
