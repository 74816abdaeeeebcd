use Rattle.std.proofs.Common.{◌∙◌, subst, ℕ, Bool, List}
use Rattle.std.proofs.lemmas.List.{take_all}
use Rattle.std.proofs.lemmas.List.Elements.{All-more}
use Rattle.gp_clause.specs.declared.lit.Lit.{Lit}
use Rattle.gp_clause.specs.Clause.{HoldsAll, HoldsClause}
use Rattle.gp_clause.specs.Valuation.{truth_of}
use Rattle.gp_cases.proofs.encodings.executing.all_hold.Goals as goal

pub loop-clause-preserved : goal.loop-clause-preserved
loop-clause-preserved c =
    let truth : ℕ → Bool = truth_of c.args.valuation.now in
    All-more (HoldsClause truth) c.args.clauses.now c.loop-clause.clause-index _ c.loop-clause-test.true c.loop-clause.invariant
    (subst (λ (clause : List Lit). HoldsClause truth clause) (c.lits.ensures.lits ∙ c.clause-item.is) (c.any_true.ensures c.if-not-any_true.false))

pub returns : goal.returns
returns c = λ _.
    let truth : ℕ → Bool = truth_of c.args.valuation.now in
    subst (λ (clauses : List (List Lit)). HoldsAll truth clauses) (take_all c.loop-clause.clause-index c.args.clauses.now c.loop-clause-test.false) c.loop-clause.invariant
