use Rattle.std.proofs.Common.{subst, ◌<◌, Option, None, get_or, arith}
use Rattle.std.proofs.lemmas.Bool.{MatchBool-at_true, MatchBool-at_false}
use Rattle.gp_clause.specs.declared.lit.Lit.{Lit}
use Rattle.gp_sat.specs.Choosing.{IsBest, level_of}
use Rattle.gp_sat.proofs.Choosing.{best_same, best_first, best_more}
use Rattle.gp_sat.proofs.pending.better.Goals as goal

pub returns-then-is_same : goal.returns-then-is_same
returns-then-is_same c = λ front old. best_same (λ v. get_or c.args.values.now v None) front c.args.one c.args.lit c.args.best (MatchBool-at_true _ _ c.if-is_same.true c.is_same.ensures) old

pub returns-in-None : goal.returns-in-None
returns-in-None c = λ front old. best_first (λ v. get_or c.args.values.now v None) front c.args.one c.args.lit (MatchBool-at_false _ _ c.if-is_same.false c.is_same.ensures)
    (subst (λ (o : Option Lit). IsBest (λ v. get_or c.args.values.now v None) front c.args.one o) c.in-None.is old)

pub returns-then-level_at : goal.returns-then-level_at
returns-then-level_at c = λ front old. best_more (λ v. get_or c.args.values.now v None) front c.args.one c.in-Some.two c.args.lit (MatchBool-at_false _ _ c.if-is_same.false c.is_same.ensures)
    (let less : level_of (get_or c.args.values.now c.in-Some.two.variable None) < level_of (get_or c.args.values.now c.args.lit.variable None) = omega (arith, c.if-level_at.true, c.level_at.ensures, c.level_at-in-Some.ensures) in less)
    (subst (λ (o : Option Lit). IsBest (λ v. get_or c.args.values.now v None) front c.args.one o) c.in-Some.is old)
