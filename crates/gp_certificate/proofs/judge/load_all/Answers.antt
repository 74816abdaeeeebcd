use Rattle.std.proofs.Common.{◌≤◌, List, sym, subst}
use Rattle.gp_base.specs.CountLaws.{once_from_rising}
use Rattle.gp_clause.specs.declared.lit.Lit.{Lit}
use Rattle.gp_clause.specs.Clause.{occurrences}
use Rattle.gp_certificate.proofs.judge.load_all.Goals as goal

pub load-requires-clause-once : goal.load-requires-clause-once
load-requires-clause-once c = λ variable.
    subst (λ (lits : List Lit). occurrences variable lits ≤ 1) (sym c.lits.ensures.lits) (once_from_rising (λ (l : Lit). l.variable) variable _ c.lits.ensures.rising)
