use Rattle.std.proofs.Common.{◌≡◌, ◌∙◌, sym, subst, ◌<◌, List, length, All, arith}
use Rattle.gp_clause.specs.declared.lit.Lit.{Lit}
use Rattle.gp_sat.specs.Learning.{IsHighestBelow}
use Rattle.gp_search.specs.declared.engine.Engine.{Engine}
use Rattle.gp_search.specs.Inside.{IsTurning}
use Rattle.gp_search.specs.Moves.{IsStudied, IsTightened}
use Rattle.gp_search.proofs.Logging.{lesson_below}
use Rattle.gp_search.proofs.Teaching.{false_within}
use Rattle.gp_search.proofs.engine.Engine.learned_step.Goals as goal

pub tighten-requires-clause-turning : goal.tighten-requires-clause-turning
tighten-requires-clause-turning c = subst (λ (e : Engine). IsTurning c.args.asked.now.problem.now c.args.asked.now.query.now e) (sym c.study.ensures.same) c.requires.turning

pub tighten-requires-clause-above : goal.tighten-requires-clause-above
tighten-requires-clause-above c = subst (λ (e : Engine). e.assumed < e.solver.level) (sym c.study.ensures.same) c.requires.above

pub tighten-requires-clause-studied : goal.tighten-requires-clause-studied
tighten-requires-clause-studied c = subst (λ (e : Engine). IsStudied c.args.asked.now.problem.now c.args.asked.now.query.now e c.in_ok-found.found) (sym c.study.ensures.same) c.in_ok-found.ensures.studied

pub highest_below-level-requires : goal.highest_below-level-requires
highest_below-level-requires c =
    let P : List Lit → Type 0 = λ ls. All (λ lit. lit.variable < length c.tighten.new.self.solver.values) ls in
    let Q : Engine → Type 0 = λ e. All (λ lit. lit.variable < length e.solver.values) c.in_ok-step.step.clause in
    subst P (sym c.lits.ensures.lits) (subst Q (sym c.tighten.ensures.same) (false_within c.study.new.self.solver c.in_ok-step.step.clause c.in_ok-step.ensures.tightened.all_false))

pub returns-clause-step : goal.returns-clause-step
returns-clause-step c =
    let same : c.tighten.new.self ≡ c.args.self.now = c.tighten.ensures.same ∙ c.study.ensures.same in
    let P : List Lit → Type 0 = λ ls. IsHighestBelow c.tighten.new.self.solver ls c.highest_below-level.result in
    let highest : IsHighestBelow c.args.self.now.solver c.in_ok-step.step.clause c.highest_below-level.result =
    let Q : Engine → Type 0 = λ e. IsHighestBelow e.solver c.in_ok-step.step.clause c.highest_below-level.result in
    subst Q same (subst P c.lits.ensures.lits c.highest_below-level.ensures) in
    record {
      tightened = subst (λ (e : Engine). IsTightened c.args.asked.now.problem.now c.args.asked.now.query.now e c.in_ok-step.step) c.study.ensures.same c.in_ok-step.ensures.tightened;
      highest = highest;
      below = lesson_below c.args.self.now.solver c.in_ok-step.step.clause c.highest_below-level.result (omega (arith, c.requires.above)) highest;
    }
