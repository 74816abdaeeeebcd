use Rattle.std.proofs.Common.{sym, subst, ℕ, List, length}
use Rattle.gp_clause.specs.declared.lit.Lit.{Lit}
use Rattle.gp_derivation.specs.Log.{LearnedPasses}
use Rattle.gp_sat.specs.Learning.{IsFinal}
use Rattle.gp_search.specs.declared.engine.Engine.{Engine}
use Rattle.gp_search.specs.Inside.{IsTurning}
use Rattle.gp_search.specs.Moves.{with_number}
use Rattle.gp_search.proofs.LearnedSteps.{learned_passes}
use Rattle.gp_search.proofs.Refuting.{final_negated}
use Rattle.gp_search.proofs.engine.Engine.refute.Goals as goal

pub certify-requires-clause-turning : goal.certify-requires-clause-turning
certify-requires-clause-turning c = subst (λ (e : Engine). IsTurning c.args.asked.now.problem.now c.args.asked.now.query.now e) (sym c.analyse_final.ensures.same) c.requires.turning

pub certify-requires-clause-passes : goal.certify-requires-clause-passes
certify-requires-clause-passes c =
    let P : List Lit → Type 0 = λ ls. IsFinal c.args.self.now.solver ls c.in_ok-learned.learned in
    let found : IsFinal c.args.self.now.solver c.args.conflict.now.lits.items c.in_ok-learned.learned = subst P c.as_slice.ensures.value c.in_ok-learned.ensures.learned in
    let Q : List ℕ → Type 0 = λ hints. LearnedPasses c.args.asked.now.problem.now c.args.asked.now.query.now.locals c.analyse_final.new.self.log.items c.analyse_final.new.self.begins (length c.analyse_final.new.self.log.items) (record { clause = c.in_ok-learned.learned.clause; hints = hints }) in
    let R : Engine → Type 0 = λ e. LearnedPasses c.args.asked.now.problem.now c.args.asked.now.query.now.locals e.log.items e.begins (length e.log.items) (record { clause = c.in_ok-learned.learned.clause; hints = with_number c.in_ok-learned.learned.hints c.args.conflict.now.number }) in
    subst Q (sym c.in_ok-add_number.ensures) (subst R (sym c.analyse_final.ensures.same)
    (learned_passes c.args.asked.now.problem.now c.args.asked.now.query.now c.args.self.now c.args.conflict.now.lits.items c.args.conflict.now.number c.in_ok-learned.learned.clause c.in_ok-learned.learned.hints c.requires.turning c.requires.conflict found.learned))

pub certify-requires-clause-negated : goal.certify-requires-clause-negated
certify-requires-clause-negated c =
    final_negated c.args.asked.now.problem.now c.args.asked.now.query.now c.args.self.now c.in_ok-learned.learned.clause c.requires.turning c.requires.low c.in_ok-learned.ensures.learned.decisions c.in_ok-learned.ensures.learned.learned.all_false
