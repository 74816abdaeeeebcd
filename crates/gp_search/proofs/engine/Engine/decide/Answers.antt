use Rattle.std.proofs.Common.{ap, subst}
use Rattle.std.specs.Prelude.{IfOk, MatchOption}
use Rattle.gp_sat.specs.State.{SolverForm}
use Rattle.gp_search.specs.declared.engine.Engine.{Engine}
use Rattle.gp_search.specs.Moves.{GoesFurther, IsRightVerdict}
use Rattle.gp_search.proofs.Choosing.{keeps_on, keeps_moved, settled_moved}
use Rattle.gp_search.proofs.engine.Engine.decide.Goals as goal

pub assume-requires-clause-settled : goal.assume-requires-clause-settled
assume-requires-clause-settled c = settled_moved c.args.self.now c.open_assumption.new.self c.open_assumption.ensures.same c.requires.settled

pub fill-requires-clause-settled : goal.fill-requires-clause-settled
fill-requires-clause-settled c = settled_moved c.args.self.now c.open_assumption.new.self c.open_assumption.ensures.same c.requires.settled

pub returns-in-Some-clause-same : goal.returns-in-Some-clause-same
returns-in-Some-clause-same c = keeps_on c.args.self.now c.open_assumption.new.self c.assume.new.self (keeps_moved c.args.self.now c.open_assumption.new.self c.open_assumption.ensures.same) c.assume.ensures.same

pub returns-in-Some-clause-found : goal.returns-in-Some-clause-found
returns-in-Some-clause-found c =
    let P : SolverForm → Type 0 = λ s. IfOk c.assume.result (λ found. MatchOption found (GoesFurther s c.assume.new.self.solver) (IsRightVerdict c.args.asked.now.problem.now c.args.asked.now.query.now c.assume.new.self.log.items)) in
    subst P (ap (λ (e : Engine). e.solver) c.open_assumption.ensures.same) c.assume.ensures.found

pub returns-in-None-clause-same : goal.returns-in-None-clause-same
returns-in-None-clause-same c = keeps_on c.args.self.now c.open_assumption.new.self c.fill.new.self (keeps_moved c.args.self.now c.open_assumption.new.self c.open_assumption.ensures.same) c.fill.ensures.same

pub returns-in-None-clause-found : goal.returns-in-None-clause-found
returns-in-None-clause-found c =
    let P : SolverForm → Type 0 = λ s. IfOk c.fill.result (λ found. MatchOption found (GoesFurther s c.fill.new.self.solver) (IsRightVerdict c.args.asked.now.problem.now c.args.asked.now.query.now c.fill.new.self.log.items)) in
    subst P (ap (λ (e : Engine). e.solver) c.open_assumption.ensures.same) c.fill.ensures.found
