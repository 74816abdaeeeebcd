use Rattle.std.proofs.Common.{◌≡◌, sym, subst, ◌∙◌, [], ◌∷◌, ◌++◌, length}
use Rattle.gp_clause.specs.Lit.{opposite}
use Rattle.gp_derivation.specs.Log.{LearnedPasses}
use Rattle.gp_search.specs.declared.engine.Engine.{Engine}
use Rattle.gp_search.specs.Inside.{IsTurning}
use Rattle.gp_search.proofs.Refuting.{once_beside, apart_from_false, assumption_passes, assumption_negated}
use Rattle.gp_sat.specs.SolverLaws.{clause_sorted, makes_clause}
use Rattle.gp_search.proofs.engine.Engine.refute_assumption.Goals as goal

pub unwrap-requires : goal.unwrap-requires
unwrap-requires c =
    let lits : c.push.new.self.items ≡ c.in_ok-learned.learned.clause ++ opposite c.args.lit ∷ [] =
    c.in_ok-push.ensures.items ∙ (λ i. c.into_vec-lits.ensures.lits i ++ c.negated.ensures i ∷ []) in
    makes_clause c.of.result c.push.new.self.items c.of.ensures.bad.0
    (once_beside c.push.new.self.items c.in_ok-learned.learned.clause c.args.lit c.into_vec-lits.ensures.rising lits
    (apart_from_false c.args.asked.now.problem.now c.args.asked.now.query.now c.args.self.now c.args.lit c.in_ok-learned.learned.clause c.requires.turning c.requires.low c.requires.assumed c.requires.fell c.in_ok-learned.ensures.learned.decisions c.in_ok-learned.ensures.learned.learned.all_false))

pub certify-requires-clause-turning : goal.certify-requires-clause-turning
certify-requires-clause-turning c = subst (λ (e : Engine). IsTurning c.args.asked.now.problem.now c.args.asked.now.query.now e) (sym c.analyse_final.ensures.same) c.requires.turning

pub certify-requires-clause-passes : goal.certify-requires-clause-passes
certify-requires-clause-passes c =
    let R : Engine → Type 0 = λ e. LearnedPasses c.args.asked.now.problem.now c.args.asked.now.query.now.locals e.log.items e.begins (length e.log.items) (record { clause = c.unwrap.result; hints = c.in_ok-learned.learned.hints }) in
    let lits : c.push.new.self.items ≡ c.in_ok-learned.learned.clause ++ opposite c.args.lit ∷ [] =
    c.in_ok-push.ensures.items ∙ (λ i. c.into_vec-lits.ensures.lits i ++ c.negated.ensures i ∷ []) in
    subst R (sym c.analyse_final.ensures.same)
    (assumption_passes c.args.asked.now.problem.now c.args.asked.now.query.now c.args.self.now c.args.lit c.in_ok-learned.learned.clause c.push.new.self.items c.unwrap.result c.in_ok-learned.learned.hints c.requires.turning c.requires.low c.requires.assumed
    c.requires.fell c.in_ok-learned.ensures.learned.learned c.in_ok-learned.ensures.learned.decisions lits (clause_sorted c.of.result c.push.new.self.items c.unwrap.result c.of.ensures.sorted c.unwrap.ensures))

pub certify-requires-clause-negated : goal.certify-requires-clause-negated
certify-requires-clause-negated c =
    let lits : c.push.new.self.items ≡ c.in_ok-learned.learned.clause ++ opposite c.args.lit ∷ [] =
    c.in_ok-push.ensures.items ∙ (λ i. c.into_vec-lits.ensures.lits i ++ c.negated.ensures i ∷ []) in
    assumption_negated c.args.asked.now.problem.now c.args.asked.now.query.now c.args.self.now c.args.lit c.in_ok-learned.learned.clause c.push.new.self.items c.unwrap.result c.requires.turning c.requires.low c.requires.assumed
    c.in_ok-learned.ensures.learned.decisions c.in_ok-learned.ensures.learned.learned.all_false lits (clause_sorted c.of.result c.push.new.self.items c.unwrap.result c.of.ensures.sorted c.unwrap.ensures)
